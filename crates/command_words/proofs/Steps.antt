-- What follows from a value, and from none. Assumes nothing.
use mathlib.Core.Path.{◌≡◌, sym, ap, ◌∙◌}
use Rattle.std.proofs.Common.{Result, Ok, Err}
use Rattle.command_words.specs.Words.{and_then}
use Rattle.command_words.specs.declared.MastError.{MastError}

module _ {A B : Type 0} {r : Result A MastError} {z : Result B MastError} (next : A → Result B MastError) where
  pub goes : {v : A} → r ≡ Ok v → z ≡ next v → z ≡ and_then r next
  unfolding and_then
  goes e f = f ∙ sym (ap (λ (x : Result A MastError). and_then x next) e)

  pub stops : {k : MastError} → r ≡ Err k → z ≡ Err k → z ≡ and_then r next
  unfolding and_then
  stops e f = f ∙ sym (ap (λ (x : Result A MastError). and_then x next) e)
