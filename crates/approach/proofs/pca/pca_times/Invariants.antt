-- `pca_times` meets its contract. Assumes nothing.
use mathlib.Core.Path.{◌≡◌}
use lib.ListN.{length}
use Rattle.loops.proofs.Laws.{Left}
use Rattle.pass_set.specs.PassSet.{AtPass}
use Rattle.approach.specs.Pca.{put_pca_of, pca_times_of}
use Rattle.approach.proofs.pca.pca_times.Given as goal

abbrev pub invariant-loop-p : goal.invariant-loop-p
invariant-loop-p l =
    let s = l.set in
    AtPass s.counts.now l.p l.k × (length l.out ≡ length l.initial.out)
    × Left l.p (length s.counts.now) (put_pca_of l.v.sight.station l.v.sight.e l.first s.counts.now s.times.now s.freqs.now) l.out (pca_times_of l.v.sight.station l.v.sight.e s.counts.now s.times.now s.freqs.now s.centers.now l.initial.out)
