use Rattle.moment.proofs.Days.{from_march, from_january}
use Rattle.moment.proofs.calendar.date_of.Goals as goal

pub returns-then-mp-lt10 : goal.returns-then-mp-lt10
returns-then-mp-lt10 c = from_march _ _ c.requires c.min-turn.ensures c.if-mp-lt10.true

pub returns-else-mp-lt10 : goal.returns-else-mp-lt10
returns-else-mp-lt10 c = from_january _ _ c.requires c.min-turn.ensures c.if-mp-lt10.false
