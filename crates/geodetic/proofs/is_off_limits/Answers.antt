-- `geodetic::is_off_limits` meets its contract. Assumes nothing.
use mathlib.Core.Path.{sym, ◌∙◌}
use mathlib.Core.Bool.{true≢false}
use lib.Ieee.{of_bits, round}
use Rattle.geodetic.specs.Ellipsoid.{off_limits}
use Rattle.geodetic.proofs.is_off_limits.Goals.{then-is_outside, else-is_outside}
use Rattle.geodetic.proofs.is_off_limits.Goals as goal

pub returns-then-is_outside-2 : goal.returns-then-is_outside-2
unfolding off_limits of_bits round
returns-then-is_outside-2 c =
    elim c.if-is_outside.branch [
      | then-is_outside w ↦ c.if-is_outside-2.true ∙ simp (sym c.is_outside.ensures ∙ w.if-is_outside.true)
      | else-is_outside w ↦ c.if-is_outside-2.true ∙ simp (sym c.is_outside.ensures ∙ w.if-is_outside.false, sym w.is_outside-else-is_outside.ensures ∙ sym w.value-is ∙ c.if-is_outside-2.true)
    ]

pub returns-else-is_outside-2 : goal.returns-else-is_outside-2
unfolding off_limits of_bits round
returns-else-is_outside-2 c =
    elim c.if-is_outside.branch [
      | then-is_outside w ↦ absurd (true≢false (sym w.if-is_outside.true ∙ sym w.value-is ∙ c.if-is_outside-2.false))
      | else-is_outside w ↦ c.is_outside-else-is_outside-2.ensures ∙ simp (sym c.is_outside.ensures ∙ w.if-is_outside.false, sym w.is_outside-else-is_outside.ensures ∙ sym w.value-is ∙ c.if-is_outside-2.false)
    ]
