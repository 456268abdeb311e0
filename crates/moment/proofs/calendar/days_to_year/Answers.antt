-- `moment::calendar::days_to_year` meets its contract: the sum is the calendar's. Assumes nothing.
use Rattle.std.proofs.Common.{arith}
use Rattle.moment.proofs.Lengths.{years, years_most}
use Rattle.moment.proofs.calendar.days_to_year.Goals as goal

pub returns : goal.returns
returns c = record { is = omega (arith, years c.args.y); most = omega (arith, years c.args.y, years_most c.args.y) }
