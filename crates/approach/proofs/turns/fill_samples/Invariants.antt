-- `fill_samples` meets its contract. Assumes nothing.
use Rattle.approach.specs.Turns.{Entered, moments}
use Rattle.approach.proofs.turns.fill_samples.Given as goal

abbrev pub invariant-loop-k : goal.invariant-loop-k
invariant-loop-k l = Entered (moments l.times) l.at l.k l.initial.table l.table
