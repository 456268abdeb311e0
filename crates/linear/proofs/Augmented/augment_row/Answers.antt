-- `Augmented::augment_row` meets its contract. Assumes nothing.
use Prim.Native.Nat.{◌*◌}
use Rattle.loops.proofs.Laws.{again, ends}
use Rattle.linear.specs.Elimination.{augment_entry, augment_row}
use Rattle.linear.proofs.Places.{row_within, part_length, part_entry}
use Rattle.linear.proofs.Augmented.augment_row.Goals as goal

pub loop-c-preserved : goal.loop-c-preserved
unfolding augment_entry
loop-c-preserved c =
    let same = c.loop-c.invariant.0 in
    let n = c.args.self.now.n in
    let k = c.args.r * n in
    let met = rw (part_length c.args.m.now k n (row_within n c.args.r _ c.requires.0 c.requires.2)) at c.loop-c-test.true in
    (same, again met c.loop-c.invariant.1 (simp (c.cell-p.ensures.0, part_entry c.args.m.now k n c.loop-c.c met, same)))

pub returns-clause-after : goal.returns-clause-after
unfolding augment_row
returns-clause-after c =
    let n = c.args.self.now.n in
    let k = c.args.r * n in
    let met = rw (part_length c.args.m.now k n (row_within n c.args.r _ c.requires.0 c.requires.2)) at c.loop-c-test.false in
    rw (c.cell-last.ensures.0, c.loop-c.invariant.0, ends met c.loop-c.invariant.1)
