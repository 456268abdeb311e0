use lib.Ieee.{of_bits}
use Rattle.float.proofs.Angle.{at_0, at_mid, at_4}
use Rattle.float.proofs.trig.nearest_whole.Goals as goal

pub returns-then-a : goal.returns-then-a
unfolding of_bits
returns-then-a c = at_0 _ c.requires c.if-a.true

pub returns-then-a-2 : goal.returns-then-a-2
unfolding of_bits
returns-then-a-2 c = at_mid _ 0 c.requires c.if-a.false c.if-a-2.true

pub returns-then-a-3 : goal.returns-then-a-3
unfolding of_bits
returns-then-a-3 c = at_mid _ 1 c.requires c.if-a-2.false c.if-a-3.true

pub returns-then-a-4 : goal.returns-then-a-4
unfolding of_bits
returns-then-a-4 c = at_mid _ 2 c.requires c.if-a-3.false c.if-a-4.true

pub returns-else-a-4 : goal.returns-else-a-4
unfolding of_bits
returns-else-a-4 c = at_4 _ c.requires c.if-a-4.false
