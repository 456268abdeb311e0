use Rattle.float.specs.Ops.{half_bits}
use Rattle.noise.specs.Verdict.{ratio_of}
use Rattle.noise.proofs.ratio.Goals as goal

pub returns : goal.returns
unfolding ratio_of
returns c = simp (c.max.ensures, half_bits)
