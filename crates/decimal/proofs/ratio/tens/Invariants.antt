-- `decimal::ratio::tens` meets its contract: x is d * 10 ^ i after i turns. Assumes nothing.
use mathlib.Core.Path.{◌≡◌}
use Prim.Native.Nat.{◌*◌, ◌^◌}
use Rattle.decimal.specs.Wide.{val}
use Rattle.decimal.proofs.ratio.tens.Given as goal

abbrev pub invariant-loop : goal.invariant-loop
invariant-loop l = val l.x ≡ l.d * 10 ^ l.counter
