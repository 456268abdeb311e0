-- `rng::SimpleRng::next_f64` meets its contract. Assumes nothing.
use Rattle.monna.specs.Rng.{draw_of, two_to53_bits}
use native.Mathlib.Nat.{mod-add-mod}
use Rattle.monna.proofs.rng.SimpleRng.next_f64.Goals as goal

pub returns : goal.returns
unfolding draw_of
returns c = simp (c.nearest_u64_to_f64-value.ensures, c.wrapping_add_u64-state.ensures.value, c.wrapping_mul-product.ensures, mod-add-mod, two_to53_bits)
