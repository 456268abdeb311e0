-- `moment_at` meets its contract. Assumes nothing.
use Rattle.std.proofs.Common.{get_or, w64}
use mir.ValLaws.{to_z-of_z}
use Rattle.command.proofs.Reports.{at_sample, past_samples}
use Rattle.command.proofs.report.moment_at.Goals as goal

pub returns-then-k-times : goal.returns-then-k-times
returns-then-k-times c =
    at_sample _ _ _ (to_z-of_z w64 (get_or c.args.times.now c.args.k _) (record { sfits = c.moment_in-arg-1.given })) c.if-k-times.true c.moment_in.ensures

pub returns : goal.returns
returns c = past_samples _ _ c.if-k-times.false
