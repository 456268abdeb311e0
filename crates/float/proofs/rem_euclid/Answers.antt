use Rattle.float.specs.Ops.{rem_euclid_of}
use Rattle.float.proofs.rem_euclid.Goals as goal

pub returns-then-r : goal.returns-then-r
unfolding rem_euclid_of
returns-then-r c = let t = rw c.remainder-r.ensures at c.if-r.true in rw c.remainder-r.ensures (simp t)

pub returns-else-r : goal.returns-else-r
unfolding rem_euclid_of
returns-else-r c = let t = rw c.remainder-r.ensures at c.if-r.false in rw c.remainder-r.ensures (simp t)
