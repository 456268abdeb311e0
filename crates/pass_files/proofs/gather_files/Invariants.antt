-- `gather_files` meets its contract. Assumes nothing.
use mathlib.Core.Path.{◌≡◌}
use Rattle.std.proofs.Common.{Ok}
use Prim.Native.Nat.{◌-◌, ◌≤◌}
use lib.ListN.{length}
use Rattle.command.specs.Gather.{arrays, Gathers}
use Rattle.pass_files.proofs.gather_files.Given as goal

abbrev pub invariant-loop-i : goal.invariant-loop-i
invariant-loop-i g l =
    (l.i ≤ l.n) × (length l.counts ≡ length l.initial.counts) × (length l.times ≡ length l.initial.times) × (length l.freqs ≡ length l.initial.freqs) × (length l.centers ≡ length l.initial.centers) × (length l.name ≡ length l.initial.name)
    × Gathers l.i (Ok l.g) (arrays l.counts l.times l.freqs l.centers l.name)

abbrev pub decreases-loop-i : goal.decreases-loop-i
decreases-loop-i g l = l.n - l.i
