-- What the steps that can refuse answer and leave.
use mathlib.Core.Path.{refl}
use mathlib.Core.Bool.{true, false}
use mathlib.Core.Option.{Option}
use Prim.Native.Nat.{ℕ, ◌<◌}
use Rattle.std.proofs.Common.{Ok, Err}
use Rattle.loops.specs.Loop.{Made}
use Rattle.loops.proofs.Laws.{Tries, refused}
use Rattle.refusal.specs.declared.Refusal.{Refusal}
use Rattle.refusal.specs.declared.Refusal.TheVariants.{SmallPivot}
use Rattle.linear.specs.Answer.{Reduces}

pub reduced : {S : Type 0} {s : S} {t : Option S} → Made true s t → Reduces (Ok tt) s t
reduced m = record { answer = rw (← m.made); left = m }

pub too_small : {S : Type 0} {s : S} {t : Option S} → Made false s t → Reduces (Err SmallPivot) s t
too_small m = record { answer = rw (← m.made); left = m }

-- a refusal of a turn is the loop's
pub stopped : {S : Type 0} {a b : ℕ} {f : ℕ → S → Option S} {s s' : S} {t : Option S} {e : Refusal}
    → a < b → Tries a b f s t → Reduces (Err e) s' (f a s) → Reduces (Err e) s' t
stopped {s' = s'} h l r =
    let q = refused {s'' = s'} h l r.left refl in
    record { answer = rw (← q.made) (rw (← r.left.made) at r.answer); left = q }
