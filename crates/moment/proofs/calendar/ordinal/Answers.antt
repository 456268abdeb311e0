-- `moment::calendar::ordinal` meets its contract. Assumes nothing.
use Rattle.std.proofs.Common.{true, false, sym, ◌∙◌, rules}
use Rattle.moment.proofs.Days.{ordinal_early, ordinal_late}
use Rattle.moment.proofs.calendar.ordinal.Goals as goal

pub returns-then-d-lt3 : goal.returns-then-d-lt3
returns-then-d-lt3 c = ordinal_early c.args.d (search rules) (search rules)

pub returns-then-leap_year : goal.returns-then-leap_year
returns-then-leap_year c =
    ordinal_late c.args.d true (sym c.if-leap_year.true ∙ c.leap_year.ensures) (search rules) (search rules)

pub returns-else-leap_year : goal.returns-else-leap_year
returns-else-leap_year c =
    ordinal_late c.args.d false (sym c.if-leap_year.false ∙ c.leap_year.ensures) (search rules) (search rules)
