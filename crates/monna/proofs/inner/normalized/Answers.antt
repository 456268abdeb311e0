-- `inner::normalized` meets its contract. Assumes nothing.
use Rattle.monna.specs.Digits.{normalized_at, range_bits, highest_bits}
use Rattle.monna.proofs.inner.normalized.Goals as goal

pub returns : goal.returns
unfolding normalized_at
returns c = simp (c.monna_value.ensures, c.inverse_value.ensures, c.min-held.ensures, c.abs.ensures, range_bits, highest_bits)
