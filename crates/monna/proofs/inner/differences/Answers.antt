-- `inner::differences` meets its contract. Assumes nothing.
use Rattle.std.proofs.Common.{refl, ◌∙◌, arith}
use Rattle.monna.specs.History.{tabulated, differences_of}
use Rattle.monna.proofs.Filled.{filled_more, filled_all}
use Rattle.monna.proofs.inner.differences.Goals as goal

pub loop-i-init : goal.loop-i-init
unfolding tabulated
loop-i-init c = refl

pub loop-i-preserved : goal.loop-i-preserved
loop-i-preserved c = rw (c.difference_at.ensures, c.loop-i.invariant) (filled_more _ _ _ (omega arith))

pub returns : goal.returns
unfolding differences_of
returns c = c.loop-i.invariant ∙ filled_all _ _ _ _ c.requires (omega arith) (omega arith)
