-- What a test made of two says of each, and each of it. Assumes nothing.
use mathlib.Core.Path.{◌≡◌, refl, sym}
use mathlib.Core.Bool.{Bool, true, false, true≢false, ◌&&◌, ◌||◌}

pub and_true : (a b : Bool) → (a && b) ≡ true → (a ≡ true) × (b ≡ true)
and_true true b e = (refl, e)
and_true false b e = absurd (true≢false (sym e))

pub and_left : (a b : Bool) → (a && b) ≡ true → a ≡ true
and_left a b e = (and_true a b e).0

pub and_right : (a b : Bool) → (a && b) ≡ true → b ≡ true
and_right a b e = (and_true a b e).1

pub or_false : (a b : Bool) → (a || b) ≡ false → (a ≡ false) × (b ≡ false)
or_false true b e = absurd (true≢false e)
or_false false b e = (refl, e)

pub or_left : (a b : Bool) → (a || b) ≡ false → a ≡ false
or_left a b e = (or_false a b e).0

pub or_right : (a b : Bool) → (a || b) ≡ false → b ≡ false
or_right a b e = (or_false a b e).1

-- ---- a test made of two, by one of them

pub and_false : (a b : Bool) → a ≡ false → false ≡ (a && b)
and_false a b e = rw e

pub and_then : (a b : Bool) → a ≡ true → b ≡ (a && b)
and_then a b e = rw e

pub false_behind : (a : Bool) → (a && false) ≡ false
false_behind true = refl
false_behind false = refl

pub true_behind : (a : Bool) → (a || true) ≡ true
true_behind true = refl
true_behind false = refl
