-- `scale_factor` meets its contract. Assumes nothing.
use Rattle.float.specs.Ops.{one_bits}
use Rattle.normal.specs.Step.{least_scale_bits, scale_of}
use Rattle.normal.proofs.scale_factor.Goals as goal

pub returns-then-s : goal.returns-then-s
unfolding scale_of
returns-then-s c = rw (← least_scale_bits, c.if-s.true)

pub returns-else-s : goal.returns-else-s
unfolding scale_of
returns-else-s c = rw (← least_scale_bits, c.if-s.false) one_bits
