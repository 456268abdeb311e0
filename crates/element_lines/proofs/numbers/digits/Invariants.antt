-- `element_lines::numbers::digits` meets its contract: the number so far, with what is left, is the whole. Assumes nothing.
use mathlib.Core.Path.{◌≡◌}
use mathlib.Core.List.{List}
use Prim.Native.Nat.{ℕ, ◌^◌, ◌<◌}
use lib.ListN.{drop}
use Rattle.tle.specs.Printed.{read_digits}
use Rattle.element_lines.proofs.numbers.digits.Given as goal

pub record Inv (l : List ℕ) (n i : ℕ) : Type 0 where
  pub low : n < 10 ^ i
  pub is : read_digits n (drop i l) ≡ read_digits 0 l

abbrev pub invariant-loop-c : goal.invariant-loop-c
invariant-loop-c l = Inv l.l l.n l.c-index
