use Rattle.std.proofs.Common.{lit<}
use Rattle.moment.specs.Time.{over_of}
use Rattle.moment.proofs.Order.{lt_is}
use Rattle.moment.proofs.time.over.Goals as goal

pub returns-then-lt : goal.returns-then-lt
unfolding over_of
returns-then-lt c = simp (← lt_is c.args.t (record { secs = 9592186044416; nanos = 0 }) c.requires (lit< tt), ← c.lt.ensures, c.if-lt.true)

pub returns-else-lt : goal.returns-else-lt
unfolding over_of
returns-else-lt c = simp (← lt_is c.args.t (record { secs = 9592186044416; nanos = 0 }) c.requires (lit< tt), ← lt_is (record { secs = 25592186044416; nanos = 0 }) c.args.t (lit< tt) c.requires, ← c.lt.ensures, ← c.lt-else-lt.ensures, c.if-lt.false)
