use lib.ListN.{get_or}
use lib.Ieee.{of_bits, div}
use mir.Syntax.{w64}
use mir.ValLaws.{to_z-of_z}
use Rattle.noise.proofs.Fives.{no_first, no_second, in_times}
use Rattle.noise.proofs.seconds.Goals.{else-k-times-via-then-k-times+else-j-times, else-k-times-via-else-k-times}
use Rattle.noise.proofs.seconds.Goals as goal

pub returns-then-j-times : goal.returns-then-j-times
returns-then-j-times c =
    in_times _ _ _ c.if-k-times.true c.if-j-times.true _ _ (to_z-of_z w64 (get_or c.args.times.now c.args.k _) (record { sfits = c.between-arg-1.given }))
    (to_z-of_z w64 (get_or c.args.times.now c.args.j _) (record { sfits = c.between-arg-then-j-times-1.given })) c.between.ensures

pub returns-else-k-times : goal.returns-else-k-times
unfolding of_bits div
returns-else-k-times c =
    elim c.else-k-times.branch [
      | else-k-times-via-then-k-times+else-j-times w ↦ no_second _ _ _ w.if-k-times.true w.if-j-times.false
      | else-k-times-via-else-k-times w ↦ no_first _ _ _ w.if-k-times.false
    ]
