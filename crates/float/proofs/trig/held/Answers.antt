use Rattle.float.specs.Ops.{one_bits}
use Rattle.float.specs.Trig.{held_of}
use Rattle.float.proofs.trig.held.Goals as goal

pub returns : goal.returns
unfolding held_of
returns c = simp (← one_bits, c.clamp.ensures.value)
