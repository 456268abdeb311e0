-- `langevin_trajectory` meets its contract. Assumes nothing.
use Rattle.std.proofs.Common.{ap, ◌∙◌}
use Rattle.loops.specs.Loop.{for}
use Rattle.loops.proofs.Laws.{ends, loops}
use Rattle.search.specs.Step.{step_of}
use Rattle.search.specs.Search.{finished_of, trajectory_of}
use Rattle.search.proofs.langevin_trajectory.Goals as goal

pub loop-k-init : goal.loop-k-init
loop-k-init c = search loops

pub step-w-requires : goal.step-w-requires
step-w-requires c = search loops

pub overflow_step-k : goal.overflow_step-k
overflow_step-k c = search loops

pub loop-k-smaller : goal.loop-k-smaller
loop-k-smaller c = search loops

pub loop-k-preserved : goal.loop-k-preserved
loop-k-preserved c = search loops

pub returns : goal.returns
unfolding trajectory_of
returns c = c.finished.ensures ∙ ap (finished_of _) (ends c.loop-k-test.false c.loop-k.invariant.1 ∙ ap (for 0 15 (step_of _)) c.opening-w.ensures)
