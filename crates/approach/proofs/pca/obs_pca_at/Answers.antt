-- `obs_pca_at` meets its contract. Assumes nothing.
use mathlib.Core.Path.{ap}
use Rattle.loops.proofs.Laws.{begins, again, ends, loops}
use Rattle.float.specs.Ops.{largest_bits}
use Rattle.approach.specs.Pca.{nearer_of, obs_pca_at}
use Rattle.approach.proofs.pca.obs_pca_at.Goals.{then-offset-nearest, else-offset-nearest}
use Rattle.approach.proofs.pca.obs_pca_at.Goals as goal

pub loop-at-init : goal.loop-at-init
loop-at-init c = (search loops, begins (rw largest_bits))

pub loop-at-preserved : goal.loop-at-preserved
unfolding nearer_of
loop-at-preserved c =
    elim c.if-offset-nearest.branch [
      | then-offset-nearest w ↦ (rw w.nearest-is c.loop-at-test.true, again c.loop-at-test.true c.loop-at.invariant.1 (simp (w.nearest-is, ← c.abs-offset.ensures, w.if-offset-nearest.true)))
      | else-offset-nearest w ↦ (rw w.nearest-is c.loop-at.invariant.0, again c.loop-at-test.true c.loop-at.invariant.1 (simp (w.nearest-is, ← c.abs-offset.ensures, w.if-offset-nearest.false)))
    ]

pub returns : goal.returns
unfolding obs_pca_at
returns c = (ap (λ s. s.at) (ends c.loop-at-test.false c.loop-at.invariant.1), c.loop-at.invariant.0)
