-- `compute_fractional_difference_history` meets its contract. Assumes nothing.
use Rattle.std.proofs.Common.{sym, arith, length-take-le, rules}
use Rattle.monna.proofs.Endings.{too_short, written}
use Rattle.monna.proofs.compute_fractional_difference_history.Goals as goal

pub returns-then-out-n : goal.returns-then-out-n
returns-then-out-n c = search (rules, too_short)

pub slice_bounds-differences-end-2 : goal.slice_bounds-differences-end-2
slice_bounds-differences-end-2 c = sym (length-take-le _ _ (omega arith))

pub differences-requires : goal.differences-requires
differences-requires c = length-take-le _ _ (omega arith)

pub returns : goal.returns
returns c = search (rules, written)
