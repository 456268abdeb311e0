-- The laws of what is put into a buffer piece after piece. Assumes nothing.
use mathlib.Core.Path.{◌≡◌, refl, sym, ap, ◌∙◌, subst}
use mathlib.Core.Bool.{Bool, true, false, not, cond}
use mathlib.Core.List.{List, [], ◌∷◌, ◌++◌}
use Prim.Native.Nat.{ℕ, zero, suc, ◌+◌, ◌-◌, ◌^◌, ◌≤◌, ◌<◌, min}
use native.Mathlib.Nat.{min-eq_left, min-eq_right, le_of_lt}
use native.Mathlib.Omega.{arith}
use lib.Dec.{T, leb, ltb, ltb→lt, nltb→le}
use lib.ListN.{length, take, drop, take-append-drop, length-append}
use lib.Seq.{sets, set_out, length-sets, take_all, length-take-le}
use borrow.Rule.Slice.PartMut.{put_mid}
use Rattle.laws.proofs.Lists.{sets_append}
use Rattle.laws.proofs.Places.{put_back}
use Rattle.decimal.specs.Fixed.{digit_at}
use Rattle.append.specs.declared.Text.{Text}
use Rattle.append.specs.Append.{Appends, Begins, Puts, leading_of, digits_from, numeral}

-- past the end nothing is stored
pub sets_out : (vs o : List ℕ) (i : ℕ) → length o ≤ i → sets o i vs ≡ o
sets_out [] o i h = refl
sets_out (v ∷ vs) o i h = ap (λ (l : List ℕ). sets l (suc i) vs) (set_out o i v h) ∙ sets_out vs o (suc i) (omega arith)

-- the least of two, by cases
pub data Least (a b : ℕ) : Type 0 where
  first : min a b ≡ a → a ≤ b → Least a b
  second : min a b ≡ b → b ≤ a → Least a b

pub least : (a b : ℕ) → Least a b
least a b = go (ltb a b) (ltb→lt a b) (nltb→le a b)
  where
    go : (t : Bool) → (T t → a < b) → (T (not t) → b ≤ a) → Least a b
    go true f g = first (min-eq_left (le_of_lt (f tt))) (le_of_lt (f tt))
    go false f g = second (min-eq_right (g tt)) (g tt)

-- where the second of two pieces ends
both_behind : (i a b n : ℕ) → Least (i + a) n → min (min (i + a) n + b) n ≡ min (i + (a + b)) n
both_behind i a b n (first e h) = let s : i + a + b ≡ i + (a + b) = omega arith in rw (e, s)
both_behind i a b n (second e h) =
    let p : n ≤ n + b = omega arith in
    let q : n ≤ i + (a + b) = omega arith in
    rw (e, min-eq_right p, min-eq_right q)

both_is : (a b o : List ℕ) (i : ℕ) → Least (i + length a) (length o) → sets (sets o i a) (min (i + length a) (length o)) b ≡ sets o i (a ++ b)
both_is a b o i (first e h) = rw e (sym (sets_append a b o i))
both_is a b o i (second e h) =
    let same : length (sets o i a) ≡ length o = length-sets o i a in
    rw e (sets_out b (sets o i a) (length o) (omega arith) ∙ sym (sets_append a b o i ∙ sets_out b (sets o i a) (i + length a) (omega arith)))

-- a piece, and another behind it
joined : {a b : List ℕ} {i n m : ℕ} {o p q : List ℕ} → Appends a i o p n → Appends b n p q m → Appends (a ++ b) i o q m
joined {a} {b} {i} {n} {m} {o} {p} {q} f g =
    let l = least (i + length a) (length o) in
    record {
      is = rw (g.is, f.is, f.behind) (both_is a b o i l);
      behind = rw (g.behind, f.is, f.behind, length-sets, length-append) (both_behind i (length a) (length b) (length o) l);
    }

pub both : {a b : List ℕ} {t u v : Text} → Puts a t u → Puts b u v → Puts (a ++ b) t v
both f g = record { appends = joined f.appends g.appends; same_buffer = g.same_buffer ∙ f.same_buffer }

-- the same text, written otherwise
pub called : {a b : List ℕ} {t u : Text} → a ≡ b → Puts a t u → Puts b t u
called {t = t} {u = u} e f = subst (λ (l : List ℕ). Puts l t u) e f

-- nothing is put
pub none : (t : Text) → Puts [] t t
none t =
    let w = t.within in
    record { appends = record { is = refl; behind = sym (min-eq_left (omega (arith, w))) ∙ ap (λ (k : ℕ). min k (length t.out.now)) (let z : t.at ≡ t.at + 0 = omega arith in z) }; same_buffer = refl }

-- a text alone in its buffer
pub alone : {a o : List ℕ} {t u : Text} → Begins o t → Puts a t u → Appends a 0 o u.out.now u.at
alone {a} {o} {t} {u} b f =
    let e : Appends a 0 t.out.now u.out.now u.at = subst (λ (i : ℕ). Appends a i t.out.now u.out.now u.at) b.at_first f.appends in
    subst (λ (l : List ℕ). Appends a 0 l u.out.now u.at) b.buffer e

-- what is left to be put, done at the present text, gives what the whole does from the start
pub record Rest (a : List ℕ) (t : Text) (whole : List ℕ) (t₀ : Text) : Type 0 where
  pub gives : {u : Text} → Puts a t u → Puts whole t₀ u

pub begins : {a : List ℕ} {t : Text} → Rest a t a t
begins = record { gives = λ f. f }

pub goes_on : {a b whole : List ℕ} {t u t₀ : Text} → Rest (a ++ b) t whole t₀ → Puts a t u → Rest b u whole t₀
goes_on r f = record { gives = λ g. r.gives (both f g) }

-- ---- one piece, as far as there is room

-- what finds room is all that is stored
fits_in : (t o : List ℕ) (i : ℕ) {n : ℕ} → i ≤ length o → n ≡ min (length t) (length o - i) → sets o i (take n t) ≡ sets o i t
fits_in t o i {n} h q = go (least (length t) (length o - i))
  where
    go : Least (length t) (length o - i) → sets o i (take n t) ≡ sets o i t
    go (first f g) = ap (sets o i) (take_all n t (omega (arith, q, g)))
    go (second f g) =
        let m : n ≡ length o - i = omega (arith, q, f) in
        let l : length (take n t) ≡ n = length-take-le n t (omega (arith, m, g)) in
        sym
        (ap (sets o i) (sym (take-append-drop n t))
        ∙ sets_append (take n t) (drop n t) o i
        ∙ sets_out (drop n t) (sets o i (take n t)) (i + length (take n t)) (omega (arith, l, m, h, length-sets o i (take n t))))

pub placed : (t o : List ℕ) (i : ℕ) {n : ℕ} {v : List ℕ} → i ≤ length o → n ≡ min (length t) (length o - i) → v ≡ take n t → Appends t i o (put_mid i (i + n - i) o v) (i + n)
placed t o i {n} {v} h q e =
    let l : length v ≡ n = ap length e ∙ length-take-le n t (omega (arith, q)) in
    record {
      is = put_back o v i n l (omega (arith, h, q)) ∙ ap (sets o i) e ∙ fits_in t o i h q;
      behind = omega (arith, h, q);
    }

-- ---- the length of a number

leading_length : (n i : ℕ) → length (leading_of n i) ≤ 1
leading_length n i = go (leb (10 ^ i) n)
  where
    go : (t : Bool) → length (cond t (digit_at n i ∷ []) []) ≤ 1
    go true = omega arith
    go false = omega arith

digits_length : (n i : ℕ) → length (digits_from n i) ≤ suc i
unfolding digits_from
digits_length n zero = omega arith
digits_length n (suc i) = omega (arith, length-append (leading_of n (suc i)) (digits_from n i), leading_length n (suc i), digits_length n i)

pub numeral_length : (n : ℕ) → length (numeral n) ≤ 20
numeral_length n = digits_length n 19
