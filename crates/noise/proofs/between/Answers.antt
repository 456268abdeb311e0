use lib.Ieee.{of_bits, div}
use mir.Syntax.{w64}
use mir.ValLaws.{to_z-of_z}
use Rattle.noise.proofs.Fives.{first_out, second_out, both_in}
use Rattle.noise.proofs.between.Goals.{else-in_range-via-then-in_range+else-in_range-2, else-in_range-via-else-in_range}
use Rattle.noise.proofs.between.Goals as goal

pub returns-then-in_range-2 : goal.returns-then-in_range-2
returns-then-in_range-2 c =
    both_in _ _ _ _ (to_z-of_z w64 _ c.ranges.t) (to_z-of_z w64 _ c.ranges.e) c.in_range.ensures c.if-in_range.true c.in_range-then-in_range.ensures c.if-in_range-2.true c.of_nanos.ensures.0 c.of_nanos-then-in_range-2.ensures.0 c.tau.ensures

pub returns-else-in_range : goal.returns-else-in_range
unfolding of_bits div
returns-else-in_range c =
    elim c.else-in_range.branch [
      | else-in_range-via-then-in_range+else-in_range-2 w ↦
          second_out _ _ _ _ (to_z-of_z w64 _ c.ranges.t) (to_z-of_z w64 _ c.ranges.e) c.in_range.ensures w.if-in_range.true w.in_range-then-in_range.ensures w.if-in_range-2.false
      | else-in_range-via-else-in_range w ↦
          first_out _ _ _ _ (to_z-of_z w64 _ c.ranges.t) (to_z-of_z w64 _ c.ranges.e) c.in_range.ensures w.if-in_range.false
    ]
