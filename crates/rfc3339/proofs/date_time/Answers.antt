-- `rfc3339::date_time` meets its contract: what the tests say of the day and the time. Assumes nothing.
use mathlib.Core.Path.{sym, ◌∙◌}
use Rattle.std.proofs.Common.{rules}
use Rattle.rfc3339.proofs.Stamps.{in_year, in_day}
use Rattle.rfc3339.proofs.date_time.Goals as goal

pub seconds-requires : goal.seconds-requires
seconds-requires c =
    let y = in_year _ _ _ (sym c.valid_date.ensures ∙ c.if-not-valid_date.false) in
    let d = in_day _ _ _ (sym c.valid_time.ensures ∙ c.if-not-valid_time.false) in
    record { year = search rules; month = y.month; first = y.first; begin = y.begin; day = y.day; hour = d.hour; minute = d.minute; second = d.second }
