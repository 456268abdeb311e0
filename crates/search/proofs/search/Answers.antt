-- `search` meets its contract. Assumes nothing.
use Rattle.std.proofs.Common.{refl, arith}
use lib.Ieee.{of_bits}
use Rattle.loops.proofs.Laws.{begins, again, ends}
use Rattle.float.specs.Ops.{largest}
use Rattle.search.specs.Search.{search_of}
use Rattle.search.proofs.Draws.{start_is, next_rng, next_best, advanced}
use Rattle.search.proofs.search.Goals as goal

pub loop-j-init : goal.loop-j-init
unfolding search_of largest of_bits
loop-j-init c = (omega arith, advanced _ c.new.ensures c.advance-rng.ensures, begins refl)

pub overflow_step-j : goal.overflow_step-j
overflow_step-j c = record { fits = omega (arith, c.loop-j-test.true, c.requires) }

pub loop-j-smaller : goal.loop-j-smaller
loop-j-smaller c = omega arith

pub loop-j-preserved : goal.loop-j-preserved
loop-j-preserved c =
    let w = start_is _ _ c.grid.ensures c.grid-in-loop-j.ensures c.loop-j.invariant.1 c.langevin_trajectory-w.ensures in
    (omega arith, next_rng _ _ w, again c.loop-j-test.true c.loop-j.invariant.2 (next_best _ _ _ w c.better-best.ensures))

pub returns : goal.returns
returns c = ends c.loop-j-test.false c.loop-j.invariant.2
