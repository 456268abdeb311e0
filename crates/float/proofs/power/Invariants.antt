use Rattle.std.proofs.Common.{◌≡◌, ◌-◌}
use Rattle.float.specs.Ops.{raised, power_of}
use Rattle.float.proofs.power.Given as goal

-- the factors that are left give the whole power
abbrev pub invariant-loop : goal.invariant-loop
invariant-loop l = raised l.v (l.n - l.counter) l.product ≡ power_of l.v l.n
