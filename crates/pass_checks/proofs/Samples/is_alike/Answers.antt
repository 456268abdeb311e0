-- `Samples::is_alike` meets its contract. Assumes nothing.
use Rattle.std.proofs.Common.{refl, sym, ap₂, ◌∙◌, int_eq}
use lib.Ieee.{eq}
use Rattle.std.specs.Cmp.Lexicographic.{pointwise}
use Rattle.pass_checks.proofs.Walks.{none_counted, no_count, unlike_times, like_times, level_is, same_is}
use Rattle.pass_checks.proofs.Samples.is_alike.Goals.{then-self-p-ne0, else-self-p-ne0}
use Rattle.pass_checks.proofs.Samples.is_alike.Goals as goal

pub returns-then-eq : goal.returns-then-eq
returns-then-eq c =
    elim c.if-self-p-ne0.branch [
      | then-self-p-ne0 w ↦
          like_times _ _ _ _ _ w.if-self-p-ne0.true
          (w.eq.ensures ∙ ap₂ (pointwise int_eq) w.pass_of.ensures w.pass_of-then-self-p-ne0.ensures ∙ same_is int_eq level_is _ _)
          (sym w.value-is ∙ c.if-eq.true)
          (c.eq-then-eq.ensures ∙ ap₂ (pointwise eq) c.pass_of-then-eq.ensures c.pass_of-then-eq-2.ensures ∙ same_is eq (λ x y. refl) _ _)
      | else-self-p-ne0 w ↦ let none = no_count w.if-self-p-ne0.false w.value-is in let some = c.if-eq.true in cc
    ]

pub returns-else-eq : goal.returns-else-eq
returns-else-eq c =
    elim c.if-self-p-ne0.branch [
      | then-self-p-ne0 w ↦
          c.if-eq.false
          ∙ unlike_times _ _ _ _ _ w.if-self-p-ne0.true
          (w.eq.ensures ∙ ap₂ (pointwise int_eq) w.pass_of.ensures w.pass_of-then-self-p-ne0.ensures ∙ same_is int_eq level_is _ _)
          (sym w.value-is ∙ c.if-eq.false)
      | else-self-p-ne0 w ↦ c.if-eq.false ∙ none_counted _ _ _ _ _ w.if-self-p-ne0.false
    ]
