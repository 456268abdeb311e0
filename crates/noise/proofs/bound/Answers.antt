use Rattle.float.specs.Ops.{half_bits}
use Rattle.noise.specs.Verdict.{allowance_bits, bound_of}
use Rattle.noise.proofs.bound.Goals as goal

pub returns : goal.returns
unfolding bound_of
returns c = simp (c.max.ensures, half_bits, allowance_bits)
