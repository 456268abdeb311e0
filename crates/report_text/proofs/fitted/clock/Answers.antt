use Rattle.append.proofs.Appending.{both}
use Rattle.report_text.specs.Fitted.{clock_of}
use Rattle.report_text.proofs.Pieces.{real_put}
use Rattle.report_text.proofs.fitted.clock.Goals as goal

pub returns-then-dt : goal.returns-then-dt
unfolding clock_of
returns-then-dt c =
    rw c.if-dt.true (both c.put.ensures (both (real_put c.abs.ensures c.real.ensures) c.put-then-dt.ensures))

pub returns-else-dt : goal.returns-else-dt
unfolding clock_of
returns-else-dt c =
    rw c.if-dt.false (both c.put.ensures (both (real_put c.abs.ensures c.real.ensures) c.put-else-dt.ensures))
