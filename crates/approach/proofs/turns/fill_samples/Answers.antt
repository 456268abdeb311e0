-- `fill_samples` meets its contract. Assumes nothing.
use Rattle.std.proofs.Common.{◌≡◌, ◌∙◌, ap, rules, arith, pos, length, get_or, lit≤}
use mir.Syntax.{w64}
use mir.Val.{SFits}
use mir.ValLaws.{to_z-of_z}
use Rattle.loops.proofs.Laws.{loops}
use Rattle.moment.specs.Sample.{instant_at}
use Rattle.moment.proofs.Samples.{within_more}
use Rattle.approach.proofs.Fill.{written_none, written_more}
use Rattle.approach.proofs.turns.fill_samples.Goals as goal

pub loop-k-init : goal.loop-k-init
loop-k-init c = written_none _ _ _

pub overflow_add-at : goal.overflow_add-at
overflow_add-at c = search loops

pub of_nanos-requires : goal.of_nanos-requires
of_nanos-requires c =
    let f : SFits w64 (get_or c.args.times.now c.loop-k.k (pos 0)) = search rules in
    rw (to_z-of_z w64 (get_or c.args.times.now c.loop-k.k (pos 0)) f) (c.requires.0.each c.loop-k.k c.loop-k-test.true)

pub put_turn-requires : goal.put_turn-requires
put_turn-requires c =
    let s = c.loop-k.invariant.kept.same in
    (within_more (lit≤ tt) c.of_nanos.ensures.1, omega arith)

pub loop-k-preserved : goal.loop-k-preserved
loop-k-preserved c =
    let s = c.loop-k.invariant.kept.same in
    let f : SFits w64 (get_or c.args.times.now c.loop-k.k (pos 0)) = search rules in
    let m = c.of_nanos.ensures.0 ∙ ap instant_at (to_z-of_z w64 (get_or c.args.times.now c.loop-k.k (pos 0)) f) in
    written_more _ _ c.loop-k.k _ _ _ (omega arith) c.loop-k.invariant (rw m at c.put_turn.ensures)

pub shape_of-table : goal.shape_of-table
shape_of-table c = c.loop-k.invariant.kept.same

pub returns : goal.returns
returns c =
    let e : c.loop-k.k ≡ length c.args.times.now = omega (arith, c.loop-k-test.false) in
    rw e at c.loop-k.invariant
