-- `regularized` meets its contract. Assumes nothing.
use Rattle.std.proofs.Common.{sym, arith, length-take-le}
use lib.Ieee.{of_bits, round}
use Rattle.search.specs.Step.{regularized_of}
use Rattle.search.proofs.regularized.Goals as goal

pub slice_bounds-variation-end : goal.slice_bounds-variation-end
slice_bounds-variation-end c = sym (length-take-le _ _ (omega arith))

pub returns : goal.returns
unfolding regularized_of of_bits round
returns c = simp c.variation.ensures
