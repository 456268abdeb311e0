-- `roots::root_by_digits` meets its contract. A turn takes two digits more: the root doubles, and takes a last digit 1 where the remainder allows it. Assumes nothing.
use mathlib.Core.Path.{◌≡◌}
use Prim.Native.Nat.{ℕ, suc, ◌+◌, ◌-◌, ◌*◌, ◌^◌, ◌≤◌, ◌<◌}
use Rattle.roots.proofs.root_by_digits.Given as goal

-- root * root + rem are the digits of m * 2 ^ 52 that were taken: those without the 2 * i last ones. What is left of m's are the highest of rest's 54.
pub record Taken (m rest root rem i : ℕ) : Type 0 where
  pub low : rem ≤ 2 * root
  pub digits : rest < 18014398509481984
  pub room : suc root * 2 ^ i ≤ 9007199254740992
  pub is : ((root * root + rem) * 18014398509481984 + rest) * 4 ^ i ≡ m * 4 ^ 53

abbrev pub invariant-loop : goal.invariant-loop
invariant-loop l = Taken l.m l.rest l.root l.rem (53 - l.counter)
