-- `tle::lines::copy_to` meets its contract: what is still to be stored, on what is stored, is the whole. Assumes nothing.
use mathlib.Core.Path.{◌≡◌}
use Prim.Native.Nat.{◌+◌, ◌≤◌}
use lib.ListN.{length, drop}
use lib.Seq.{sets}
use Rattle.tle.proofs.lines.copy_to.Given as goal

abbrev pub invariant-loop-i : goal.invariant-loop-i
invariant-loop-i l = (l.i ≤ length l.from) × (length l.to ≡ length l.initial.to) × (sets l.to (l.at + l.i) (drop l.i l.from) ≡ sets l.initial.to l.at l.from)
