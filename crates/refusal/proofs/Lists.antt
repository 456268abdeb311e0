-- Laws of lists of checks, and of answers made of them. Assumes nothing.
use mathlib.Core.Path.{◌≡◌, refl}
use mathlib.Core.Bool.{Bool, true, false, cond}
use mathlib.Core.List.{List, [], ◌∷◌, ◌++◌}
use Rattle.std.proofs.Common.{Option, Some, None, Ok, Err}
use Rattle.refusal.specs.Refusals.{Check, first_of, answer}
use Rattle.refusal.specs.declared.Refusal.{Refusal}

-- ---- a refusal and an answer say each other

pub refused : {A : Type 0} (o : Option Refusal) (a : A) (x : Refusal) → Err x ≡ answer o a → o ≡ Some x
refused None a x h = absurd cc
refused (Some r) a x h = cc

pub accepted : {A : Type 0} (o : Option Refusal) (a b : A) → Ok b ≡ answer o a → (o ≡ None) × (a ≡ b)
accepted None a b h = (refl, cc)
accepted (Some r) a b h = absurd cc

pub err : {A : Type 0} {o : Option Refusal} {x : Refusal} (a : A) → o ≡ Some x → Err x ≡ answer o a
err a e = rw e

pub ok : {A : Type 0} {o : Option Refusal} (a : A) → o ≡ None → Ok a ≡ answer o a
ok a e = rw e

-- ---- no check refuses: none of their conditions holds

abbrev pub Clear : List Check → Type 0
Clear [] = Unit {0}
Clear (r ∷ rs) = (r.condition ≡ false) × Clear rs

pub clear : (rs : List Check) → first_of rs ≡ None → Clear rs
clear [] e = tt
clear (r ∷ rs) e = go r.condition r.refusal (clear rs) e
  where
    go : (b : Bool) (x : Refusal) → (first_of rs ≡ None → Clear rs) → cond b (Some x) (first_of rs) ≡ None → (b ≡ false) × Clear rs
    go true x k e = absurd cc
    go false x k e = (refl, k e)

-- ---- checks and then others: the others count where the first ones do not refuse

pub before : (cs ds : List Check) (x : Refusal) → first_of cs ≡ Some x → first_of (cs ++ ds) ≡ Some x
before [] ds x e = absurd cc
before (c ∷ cs) ds x e = go c.condition c.refusal (before cs ds x) e
  where
    go : (b : Bool) (r : Refusal) → (first_of cs ≡ Some x → first_of (cs ++ ds) ≡ Some x) → cond b (Some r) (first_of cs) ≡ Some x → cond b (Some r) (first_of (cs ++ ds)) ≡ Some x
    go true r k e = e
    go false r k e = k e

pub after : (cs ds : List Check) → first_of cs ≡ None → first_of (cs ++ ds) ≡ first_of ds
after [] ds e = refl
after (c ∷ cs) ds e = go c.condition c.refusal (after cs ds) e
  where
    go : (b : Bool) (r : Refusal) → (first_of cs ≡ None → first_of (cs ++ ds) ≡ first_of ds) → cond b (Some r) (first_of cs) ≡ None → cond b (Some r) (first_of (cs ++ ds)) ≡ first_of ds
    go true r k e = absurd cc
    go false r k e = k e
