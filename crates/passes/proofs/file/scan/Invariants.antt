-- `passes::file::scan` meets its contract. Assumes nothing.
use Prim.Native.Nat.{◌-◌}
use lib.ListN.{length}
use Rattle.passes.proofs.Files.{Scanning}
use Rattle.passes.proofs.file.scan.Given as goal

abbrev pub invariant-loop-at : goal.invariant-loop-at
invariant-loop-at l = Scanning l.file l.initial.times l.initial.freqs l.at l.s l.times l.freqs

abbrev pub decreases-loop-at : goal.decreases-loop-at
decreases-loop-at l = length l.file - l.at
