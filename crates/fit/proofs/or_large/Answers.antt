-- `or_large` meets its contract. Assumes nothing.
use Rattle.fit.specs.Answer.{largest_offset_bits}
use Rattle.fit.proofs.or_large.Goals as goal

pub returns : goal.returns
returns c = simp (c.if-large.false, c.abs.ensures, largest_offset_bits)
