use Rattle.std.proofs.Common.{sym, ◌∙◌}
use Rattle.report_text.specs.Number.{real_of}
use Rattle.report_text.proofs.Pieces.{large}
use Rattle.report_text.proofs.number.real.Goals as goal

pub returns-then-is_nan : goal.returns-then-is_nan
unfolding real_of
returns-then-is_nan c =
    rw (sym c.is_nan.ensures.value ∙ c.if-is_nan.true) c.put.ensures

pub returns-then-abs : goal.returns-then-abs
unfolding real_of
returns-then-abs c =
    rw (sym c.is_nan.ensures.value ∙ c.if-is_nan.false, large c.args.v _ c.abs.ensures c.if-abs.true) c.put-then-abs.ensures

pub returns-else-abs : goal.returns-else-abs
unfolding real_of
returns-else-abs c =
    rw (sym c.is_nan.ensures.value ∙ c.if-is_nan.false, large c.args.v _ c.abs.ensures c.if-abs.false) c.rounded.ensures
