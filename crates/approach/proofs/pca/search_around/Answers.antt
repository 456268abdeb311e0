-- `search_around` meets its contract. Assumes nothing.
use mathlib.Core.Path.{refl}
use native.Mathlib.Omega.{arith}
use Rattle.loops.proofs.Laws.{begins, again, ends, loops}
use Rattle.approach.specs.Pca.{searched_of}
use Rattle.approach.proofs.Stages.{inside, inside_within, inside_held, beside_closer}
use Rattle.approach.proofs.pca.search_around.Goals as goal

pub overflow_sub-start : goal.overflow_sub-start
overflow_sub-start c = let a = c.requires.0 in omega (arith, a.low)

pub loop-m-init : goal.loop-m-init
unfolding searched_of
loop-m-init c = (search loops, record { low = omega arith; high = omega arith }, begins refl)

pub overflow_mul-secs : goal.overflow_mul-secs
overflow_mul-secs c =
    let i = inside _ _ _ _ c.loop-m.m c.requires.0 c.loop-m-test.true in
    let l = c.requires.0.late in
    omega (arith, i.high, l)

pub overflow_add-secs : goal.overflow_add-secs
overflow_add-secs c =
    let i = inside _ _ _ _ c.loop-m.m c.requires.0 c.loop-m-test.true in
    let l = c.requires.0.late in
    omega (arith, i.high, l)

pub overflow_sub-secs : goal.overflow_sub-secs
overflow_sub-secs c =
    let i = inside _ _ _ _ c.loop-m.m c.requires.0 c.loop-m-test.true in
    omega (arith, i.low)

pub overflow_add-at : goal.overflow_add-at
overflow_add-at c =
    let i = inside _ _ _ _ c.loop-m.m c.requires.0 c.loop-m-test.true in
    omega (arith, i.high, c.requires.1.small)

pub turn_at-turn-requires : goal.turn_at-turn-requires
turn_at-turn-requires c =
    let i = inside _ _ _ _ c.loop-m.m c.requires.0 c.loop-m-test.true in
    (inside_within _ c.requires.0 i, inside_held _ c.requires.1 i)

pub closer-best-requires : goal.closer-best-requires
closer-best-requires c =
    let i = inside _ _ _ _ c.loop-m.m c.requires.0 c.loop-m-test.true in
    (inside_within _ c.requires.0 i, c.turn_at-turn.ensures)

pub overflow_step-m : goal.overflow_step-m
overflow_step-m c = search loops

pub loop-m-smaller : goal.loop-m-smaller
loop-m-smaller c = search loops

pub loop-m-preserved : goal.loop-m-preserved
loop-m-preserved c =
    let i = inside _ _ _ _ c.loop-m.m c.requires.0 c.loop-m-test.true in
    (omega arith, beside_closer _ _ _ _ _ _ _ i.near c.loop-m.invariant.1 c.closer-best.ensures, again c.loop-m-test.true c.loop-m.invariant.2 c.closer-best.ensures)

pub returns : goal.returns
returns c = (ends c.loop-m-test.false c.loop-m.invariant.2, c.loop-m.invariant.1)
