-- `out_of_range` meets its contract. Assumes nothing.
use Rattle.std.proofs.Common.{rules, tests}
use Rattle.float.specs.Trig.{pi_bits}
use Rattle.arguments.specs.Refusals.{out_of_range, least_a_bits, most_a_bits}
use Rattle.arguments.proofs.out_of_range.Goals as goal

pub returns-then-i : goal.returns-then-i
unfolding out_of_range
returns-then-i c = rw (← least_a_bits, ← most_a_bits, ← pi_bits) (search (rules, tests))

pub returns-else-i : goal.returns-else-i
unfolding out_of_range
returns-else-i c = rw (← least_a_bits, ← most_a_bits, ← pi_bits) (search (rules, tests))
