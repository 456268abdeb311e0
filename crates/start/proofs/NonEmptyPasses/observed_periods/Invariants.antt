-- `observed_periods` meets its contract. Assumes nothing.
use mathlib.Core.Path.{◌≡◌}
use Prim.Native.Nat.{◌-◌}
use lib.ListN.{length}
use Rattle.loops.proofs.Laws.{Left}
use Rattle.moment.specs.Range.{Within}
use Rattle.pass_set.specs.PassSet.{AtPass}
use Rattle.start.specs.Start.{obs_of, next_period, periods_of}
use Rattle.start.proofs.NonEmptyPasses.observed_periods.Given as goal

abbrev pub invariant-loop-p : goal.invariant-loop-p
invariant-loop-p l =
    let s = l.self in
    let c = l.fn.center in
    AtPass s.counts.now l.p l.k × Left l.p (length s.counts.now) (next_period s.counts.now s.times.now s.freqs.now c) l.s (periods_of s.counts.now s.times.now s.freqs.now c)
    × (l.t0 ≡ obs_of s.counts.now s.times.now s.freqs.now c 0) × Within 0 l.t0.secs l.t0.nanos

abbrev pub decreases-loop-p : goal.decreases-loop-p
decreases-loop-p l = length l.self.counts.now - l.p
