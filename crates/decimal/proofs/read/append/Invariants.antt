-- `decimal::read::append` meets its contract: what is left to be written after r makes the whole. Assumes nothing.
use mathlib.Core.Path.{◌≡◌}
use Prim.Native.Nat.{◌+◌, ◌-◌, ◌^◌, ◌<◌}
use lib.ListN.{drop}
use Rattle.decimal.specs.Read.{with_digits}
use Rattle.decimal.proofs.read.append.Given as goal

abbrev pub invariant-loop-c : goal.invariant-loop-c
invariant-loop-c l =
    record {
      is : with_digits l.r (l.n - l.c-index) (drop (l.at + l.c-index) l.l) ≡ with_digits l.a l.n (drop l.at l.l);
      room : l.r < 10 ^ (l.k + l.c-index);
    }
