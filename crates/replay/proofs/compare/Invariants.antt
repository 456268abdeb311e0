-- `compare` meets its contract: the lines counted, and those of the text that is left, are the text's lines. Assumes nothing.
use mathlib.Core.Path.{◌≡◌}
use mathlib.Core.Bool.{false}
use Prim.Native.Nat.{◌+◌, ◌-◌, ◌≤◌}
use lib.ListN.{length, drop}
use Rattle.replay.specs.Count.{lines_from, lines_in, counted}
use Rattle.replay.proofs.compare.Given as goal

abbrev pub invariant-loop-at : goal.invariant-loop-at
invariant-loop-at l = (l.at ≤ length l.text + 1) × (counted l.t ≤ l.at) × (counted l.t + lines_from false (drop l.at l.text) ≡ lines_in l.text)

abbrev pub decreases-loop-at : goal.decreases-loop-at
decreases-loop-at l = length l.text + 1 - l.at
