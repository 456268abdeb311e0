-- `variation` meets its contract. Assumes nothing.
use Rattle.loops.proofs.Laws.{loops}
use Rattle.search.specs.Step.{variation_of}
use Rattle.search.proofs.variation.Goals as goal

pub loop-i-init : goal.loop-i-init
unfolding variation_of
loop-i-init c = search loops

pub add_size-sum-requires : goal.add_size-sum-requires
add_size-sum-requires c = search loops

pub overflow_step-i : goal.overflow_step-i
overflow_step-i c = search loops

pub loop-i-smaller : goal.loop-i-smaller
loop-i-smaller c = search loops

pub loop-i-preserved : goal.loop-i-preserved
loop-i-preserved c = search loops

pub returns : goal.returns
returns c = search loops
