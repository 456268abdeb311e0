-- `fill` meets its contract. Assumes nothing.
use mathlib.Core.Path.{◌≡◌}
use lib.ListN.{length}
use Rattle.pass_set.specs.PassSet.{AtPass}
use Rattle.approach.proofs.Fill.{Windows}
use Rattle.approach.proofs.turns.fill.Given as goal

abbrev pub invariant-loop-p : goal.invariant-loop-p
invariant-loop-p l = AtPass l.set.counts.now l.p l.k × (length l.table ≡ length l.initial.table) × Windows l.table l.first l.set.counts.now l.set.times.now l.set.freqs.now l.p
