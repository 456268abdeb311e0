use Rattle.float.specs.Ops.{one_bits, two_bits}
use Rattle.float.specs.Log.{series_of, ln2_bits}
use Rattle.float.proofs.log.series.Goals as goal

pub returns : goal.returns
unfolding series_of
returns c = simp (c.log_poly.ensures, one_bits, two_bits, ln2_bits)
