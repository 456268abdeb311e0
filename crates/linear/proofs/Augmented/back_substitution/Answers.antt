-- `Augmented::back_substitution` meets its contract. Assumes nothing.
use Rattle.loops.proofs.Laws.{loops}
use Rattle.linear.proofs.Augmented.back_substitution.Goals as goal

pub loop-r-preserved : goal.loop-r-preserved
loop-r-preserved c = search loops

pub returns : goal.returns
returns c = search loops
