use Rattle.replay.proofs.ending.Goals as goal

pub returns-then-whole : goal.returns-then-whole
returns-then-whole c = rw c.if-whole.true c.put.ensures

pub returns : goal.returns
returns c = rw c.if-whole.false c.put-2.ensures
