-- `moment::calendar::month_length` meets its contract. Assumes nothing.
use Rattle.std.proofs.Common.{rules, arith}
use Rattle.moment.specs.Calendar.{month_length}
use Rattle.moment.proofs.Lengths.{thirty, other}
use Rattle.moment.proofs.calendar.month_length.Goals as goal

pub returns-then-leap : goal.returns-then-leap
unfolding month_length
returns-then-leap c = record { is = simp (c.in-2.is, c.if-leap.true); most = omega arith }

pub returns-else-leap : goal.returns-else-leap
unfolding month_length
returns-else-leap c = record { is = simp (c.in-2.is, c.if-leap.false); most = omega arith }

pub returns-in-4 : goal.returns-in-4
returns-in-4 c = thirty _ _ c.in-4.is

pub returns-in_default : goal.returns-in_default
returns-in_default c = other _ _ (search rules) (search rules) (search rules) (search rules) (search rules)
