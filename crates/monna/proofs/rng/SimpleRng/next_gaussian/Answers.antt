-- `rng::SimpleRng::next_gaussian` meets its contract. Assumes nothing.
use Rattle.float.specs.Ops.{two_bits}
use Rattle.float.specs.Trig.{pi_bits}
use Rattle.monna.specs.Rng.{gaussian_of, box_muller, least_uniform_bits}
use Rattle.monna.proofs.rng.SimpleRng.next_gaussian.Goals as goal

pub returns : goal.returns
unfolding gaussian_of box_muller
returns c = simp (c.cos.ensures, c.sqrt-r.ensures, c.ln.ensures, c.next_f64-second.ensures, c.max-u1.ensures, c.next_f64-first.ensures, two_bits, least_uniform_bits, pi_bits)
