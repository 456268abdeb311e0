use Rattle.std.proofs.Common.{◌-◌}
use Rattle.float.proofs.Doubling.{Up, Down}
use Rattle.float.proofs.remainder.by_steps.Given as goal

-- s is d doubled n times
abbrev pub invariant-loop-s : goal.invariant-loop-s
invariant-loop-s l = Up l.v l.d l.s l.n

abbrev pub decreases-loop-s : goal.decreases-loop-s
decreases-loop-s l = 2098 - l.n

-- r is below s, and its remainder is v's
abbrev pub invariant-loop : goal.invariant-loop
invariant-loop l = Down l.v l.d l.r l.s (l.n - l.counter)
