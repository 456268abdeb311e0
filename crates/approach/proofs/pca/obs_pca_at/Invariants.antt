-- `obs_pca_at` meets its contract. Assumes nothing.
use Rattle.std.proofs.Common.{◌<◌, length}
use Rattle.loops.specs.Loop.{for}
use Rattle.loops.proofs.Laws.{Left}
use Rattle.float.specs.Ops.{largest}
use Rattle.approach.specs.Pca.{nearer_of}
use Rattle.approach.proofs.pca.obs_pca_at.Given as goal

abbrev pub invariant-loop-at : goal.invariant-loop-at
invariant-loop-at l =
    (l.nearest.at < length l.freqs) × Left l.at (length l.freqs) (nearer_of l.freqs l.center) l.nearest (for 0 (length l.freqs) (nearer_of l.freqs l.center) (record { offset = largest; at = 0 }))
