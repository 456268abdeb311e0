-- `advance` meets its contract. Assumes nothing.
use Rattle.std.proofs.Common.{◌-◌}
use Rattle.search.specs.Search.{after_draws}
use Rattle.search.proofs.Draws.{Drawing}
use Rattle.search.proofs.advance.Given as goal

abbrev pub invariant-loop : goal.invariant-loop
invariant-loop l = Drawing (l.n - l.counter) l.g (after_draws l.n l.initial.g)
