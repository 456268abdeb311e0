-- `mirror` meets its contract. Assumes nothing.
use mathlib.Core.Path.{refl}
use native.Mathlib.Omega.{arith}
use borrow.Author.Rules.{rules}
use Rattle.received.proofs.Mirrors.{begin_all, pass_room, next_all, end_all, sized}
use Rattle.received.proofs.mirror.Goals as goal

pub loop-p-init : goal.loop-p-init
loop-p-init c = (refl, c.requires, begin_all _ _ _)

pub overflow_cast-end : goal.overflow_cast-end
overflow_cast-end c = omega (arith, c.type_inv.counts c.loop-p.p)

pub overflow_add-end : goal.overflow_add-end
overflow_add-end c = omega (arith, pass_room _ _ c.loop-p.invariant.1 c.loop-p.invariant.2 c.loop-p-test.true, c.loop-p.invariant.1.small)

pub bounds-centers-p : goal.bounds-centers-p
bounds-centers-p c = omega (arith, c.loop-p-test.true, c.loop-p.invariant.1.centred)

pub offset_bounds-freqs-at : goal.offset_bounds-freqs-at
offset_bounds-freqs-at c = omega (arith, pass_room _ _ c.loop-p.invariant.1 c.loop-p.invariant.2 c.loop-p-test.true, c.loop-p.invariant.1.small)

pub slice_bounds-mirror_pass-end : goal.slice_bounds-mirror_pass-end
slice_bounds-mirror_pass-end c = pass_room _ _ c.loop-p.invariant.1 c.loop-p.invariant.2 c.loop-p-test.true

pub loop-p-preserved : goal.loop-p-preserved
loop-p-preserved c =
    let i = c.loop-p.invariant in
    (search rules, sized (search rules) c.requires, next_all _ _ i.1 i.2 c.loop-p-test.true refl c.mirror_pass.ensures)

pub returns : goal.returns
returns c = let i = c.loop-p.invariant in end_all _ _ i.1 i.2 c.loop-p-test.false
