-- `rss` meets its contract. The passes begin where the counts before them end. Assumes nothing.
use lib.ListN.{length}
use Rattle.loops.proofs.Laws.{Left}
use Rattle.pass_set.specs.PassSet.{AtPass}
use Rattle.approach.specs.Sums.{pass_add_of, rss_of}
use Rattle.approach.proofs.sums.rss.Given as goal

abbrev pub invariant-loop-p : goal.invariant-loop-p
invariant-loop-p l =
    let s = l.w.set in
    AtPass s.counts.now l.p l.k
    × Left l.p (length s.counts.now) (pass_add_of l.v.sight.station l.v.sight.e l.first s.counts.now s.times.now s.freqs.now) l.sum (rss_of l.v.sight.station l.v.sight.e s.counts.now s.times.now s.freqs.now s.centers.now)
