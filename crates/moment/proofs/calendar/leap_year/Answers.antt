-- `moment::calendar::leap_year` meets its contract. Assumes nothing.
use Rattle.std.proofs.Common.{eq-eqb, ne_eqb}
use Rattle.moment.specs.Calendar as Calendar
use Rattle.moment.proofs.calendar.leap_year.Goals as goal

pub returns-then-y-eq0 : goal.returns-then-y-eq0
unfolding Calendar.leap
returns-then-y-eq0 c = simp (eq-eqb _ _ c.if-y-eq0.true)

pub returns-then-y-eq0-2 : goal.returns-then-y-eq0-2
unfolding Calendar.leap
returns-then-y-eq0-2 c = simp (ne_eqb _ _ c.if-y-eq0.false, eq-eqb _ _ c.if-y-eq0-2.true)

pub returns : goal.returns
unfolding Calendar.leap
returns c = simp (ne_eqb _ _ c.if-y-eq0.false, ne_eqb _ _ c.if-y-eq0-2.false)
