use Prim.Native.Nat.{◌-◌}
use Rattle.loops.proofs.Laws.{Left}
use Rattle.noise.specs.Noise.{window_of, windows_of}
use Rattle.noise.proofs.windows.Given as goal

abbrev pub invariant-loop-k : goal.invariant-loop-k
invariant-loop-k l = Left l.k l.end (window_of l.times l.freqs) l.w (windows_of l.times l.freqs l.at l.end l.initial.w)

abbrev pub decreases-loop-k : goal.decreases-loop-k
decreases-loop-k l = l.end - l.k
