use Rattle.append.proofs.Appending.{both}
use Rattle.report_text.specs.Fitted.{offset_of}
use Rattle.report_text.proofs.Pieces.{real_put}
use Rattle.report_text.proofs.fitted.offset.Goals as goal

pub returns-then-df : goal.returns-then-df
unfolding offset_of
returns-then-df c =
    rw c.if-df.true (both c.put.ensures (both (real_put c.abs.ensures c.real.ensures) c.put-then-df.ensures))

pub returns-else-df : goal.returns-else-df
unfolding offset_of
returns-else-df c =
    rw c.if-df.false (both c.put.ensures (both (real_put c.abs.ensures c.real.ensures) c.put-else-df.ensures))
