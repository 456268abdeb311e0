-- `moment_in` meets its contract. Assumes nothing.
use Rattle.std.proofs.Common.{sym, ◌∙◌, w64}
use mir.ValLaws.{to_z-of_z}
use Rattle.command.proofs.Reports.{in_time_lem, out_of_time}
use Rattle.command.proofs.report.moment_in.Goals as goal

pub to_moment-requires : goal.to_moment-requires
to_moment-requires c = sym c.in_range.ensures ∙ c.if-in_range.true

pub returns-then-in_range : goal.returns-then-in_range
returns-then-in_range c =
    in_time_lem _ _ (to_z-of_z w64 _ c.ranges.t) c.in_range.ensures c.if-in_range.true c.to_moment.ensures

pub returns : goal.returns
returns c = out_of_time _ _ (to_z-of_z w64 _ c.ranges.t) c.in_range.ensures c.if-in_range.false
