use Rattle.std.proofs.Common.{◌≡◌, drop}
use Rattle.float.specs.Trig.{horner}
use Rattle.float.proofs.trig.horner.Given as goal

-- the sum is that of the terms from k on
abbrev pub invariant-loop-k : goal.invariant-loop-k
invariant-loop-k l = l.sum ≡ horner l.w (drop l.k l.terms)
