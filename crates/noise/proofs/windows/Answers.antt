use Rattle.loops.proofs.Laws.{loops}
use Rattle.noise.specs.Noise.{windows_of}
use Rattle.noise.proofs.windows.Goals as goal

pub loop-k-init : goal.loop-k-init
unfolding windows_of
loop-k-init c = search loops

pub window-w-requires : goal.window-w-requires
unfolding windows_of
window-w-requires c = search loops

pub overflow_step-k : goal.overflow_step-k
unfolding windows_of
overflow_step-k c = search loops

pub loop-k-smaller : goal.loop-k-smaller
unfolding windows_of
loop-k-smaller c = search loops

pub loop-k-preserved : goal.loop-k-preserved
unfolding windows_of
loop-k-preserved c = search loops

pub returns : goal.returns
unfolding windows_of
returns c = search loops
