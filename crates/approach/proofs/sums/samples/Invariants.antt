-- `samples` meets its contract. Assumes nothing.
use Prim.Native.Nat.{◌-◌, ◌≤◌}
use lib.ListN.{length}
use Rattle.loops.proofs.Laws.{Left}
use Rattle.approach.specs.Sums.{sample_of, samples_of}
use Rattle.approach.proofs.sums.samples.Given as goal

abbrev pub invariant-loop-n : goal.invariant-loop-n
invariant-loop-n l =
    (l.n ≤ length l.pass.freqs.now) × Left l.n (length l.pass.freqs.now) (sample_of l.v.sight.station l.v.sight.e l.dt l.pass.times.now l.pass.freqs.now) l.sum (samples_of l.v.sight.station l.v.sight.e l.dt l.pass.times.now l.pass.freqs.now l.rss)

abbrev pub decreases-loop-n : goal.decreases-loop-n
decreases-loop-n l = length l.pass.freqs.now - l.n
