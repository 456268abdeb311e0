-- `perturbation` meets its contract. Assumes nothing.
use Rattle.float.specs.Ops.{one_bits, raised}
use Rattle.search.specs.Step.{perturbation_of}
use Rattle.search.proofs.perturbation.Goals as goal

pub returns : goal.returns
unfolding perturbation_of raised
returns c = simp (c.saturating_f64_to_u64.ensures, c.nearest_u64_to_f64-q.ensures, one_bits)
