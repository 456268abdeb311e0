-- `scrambled` meets its contract. Assumes nothing.
use Rattle.float.specs.Ops.{two_bits}
use Rattle.float.specs.Trig.{pi_bits}
use Rattle.search.specs.Step.{scrambled_of}
use Rattle.search.proofs.scrambled.Goals as goal

pub returns : goal.returns
unfolding scrambled_of
returns c = simp (c.rem_euclid.ensures, c.monna_value-x.ensures, c.wrapping_add_u64-sum.ensures.value, c.inverse_value-val.ensures, two_bits, pi_bits)
