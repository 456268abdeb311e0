-- `pass` meets its contract. Assumes nothing.
use native.Mathlib.Omega.{arith}
use Rattle.pass_set.proofs.Laws.{pass_part}
use Rattle.start.proofs.Passes.{small, fits_times, fits_freqs}
use Rattle.start.proofs.NonEmptyPasses.pass.Goals as goal

pub overflow_add-end : goal.overflow_add-end
overflow_add-end c =
    omega (arith, small c.args.self.now.sampled c.requires.0 c.requires.1)

pub offset_bounds-self-k : goal.offset_bounds-self-k
offset_bounds-self-k c =
    omega (arith, small c.args.self.now.sampled c.requires.0 c.requires.1)

pub slice_bounds-result-end : goal.slice_bounds-result-end
slice_bounds-result-end c = fits_times c.args.self.now.sampled c.requires.0 c.requires.1

pub offset_bounds-self-k-2 : goal.offset_bounds-self-k-2
offset_bounds-self-k-2 c =
    omega (arith, small c.args.self.now.sampled c.requires.0 c.requires.1)

pub slice_bounds-result-end-2 : goal.slice_bounds-result-end-2
slice_bounds-result-end-2 c = fits_freqs c.args.self.now.sampled c.requires.0 c.requires.1

pub returns-clause-times : goal.returns-clause-times
returns-clause-times c = pass_part _ c.requires.0

pub returns-clause-freqs : goal.returns-clause-freqs
returns-clause-freqs c = pass_part _ c.requires.0
