use Prim.Native.Nat.{◌*◌, ◌≤◌}
use lib.ListN.{length}
use Rattle.loops.specs.Loop.{for}
use Rattle.loops.proofs.Laws.{Left}
use Rattle.noise.specs.Noise.{with_pass, open_sums}
use Rattle.noise.proofs.estimate.Given as goal

abbrev pub invariant-loop-n : goal.invariant-loop-n
invariant-loop-n l =
    (l.n-index ≤ length l.counts) × (length l.counts ≤ 16) × (l.s.at ≤ l.n-index * 4294967295)
    × Left l.n-index (length l.counts) (with_pass l.counts l.times l.freqs) l.s (for 0 (length l.counts) (with_pass l.counts l.times l.freqs) open_sums)
