-- `pass` meets its contract.
use native.Mathlib.Omega.{arith}
use Rattle.pass_set.proofs.Laws.{pass_part, part_fits}
use Rattle.pass_set.proofs.PassSet.pass.Goals as goal

pub overflow_add-end : goal.overflow_add-end
overflow_add-end c =
    let s = c.args.self.now.sound in
    omega (arith, part_fits s c.requires.1 c.requires.0, s.sizes.small)

pub offset_bounds-self-k : goal.offset_bounds-self-k
offset_bounds-self-k c =
    let s = c.args.self.now.sound in
    omega (arith, part_fits s c.requires.1 c.requires.0, s.sizes.small)

pub slice_bounds-result-end : goal.slice_bounds-result-end
slice_bounds-result-end c =
    part_fits c.args.self.now.sound c.requires.1 c.requires.0

pub offset_bounds-self-k-2 : goal.offset_bounds-self-k-2
offset_bounds-self-k-2 c =
    let s = c.args.self.now.sound in
    omega (arith, part_fits s c.requires.1 c.requires.0, s.sizes.small)

pub slice_bounds-result-end-2 : goal.slice_bounds-result-end-2
slice_bounds-result-end-2 c =
    let s = c.args.self.now.sound in
    omega (arith, part_fits s c.requires.1 c.requires.0, s.sizes.pairs)

pub returns-clause-times : goal.returns-clause-times
returns-clause-times c = pass_part _ c.requires.0

pub returns-clause-freqs : goal.returns-clause-freqs
returns-clause-freqs c = pass_part _ c.requires.0
