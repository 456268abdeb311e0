-- `Text::put_number` meets its contract: the digits from 10 ^ (i - 1) down are still to be put. Assumes nothing.
use Prim.Native.Nat.{◌-◌}
use Rattle.append.specs.Append.{digits_from, numeral}
use Rattle.append.proofs.Appending.{Rest}
use Rattle.append.proofs.Text.put_number.Given as goal

abbrev pub invariant-loop-i : goal.invariant-loop-i
invariant-loop-i l = Rest (digits_from l.n (l.i - 1)) l.self (numeral l.n) l.initial.self
