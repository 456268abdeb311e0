use Rattle.replay.specs.Count.{tally_with}
use Rattle.replay.proofs.noted.Goals as goal

pub returns-then-same : goal.returns-then-same
unfolding tally_with
returns-then-same c = rw (c.if-changed.true, c.if-same.true)

pub returns-then-changed : goal.returns-then-changed
unfolding tally_with
returns-then-changed c = rw (c.if-changed.true, c.if-same.false)

pub returns-then-same-2 : goal.returns-then-same-2
unfolding tally_with
returns-then-same-2 c = rw (c.if-changed.false, c.if-same-2.true)

pub returns : goal.returns
unfolding tally_with
returns c = rw (c.if-changed.false, c.if-same-2.false)
