-- `element_lines::columns::matches` meets its contract: what is left of the line decides. Assumes nothing.
use mathlib.Core.Path.{◌≡◌}
use mathlib.Core.List.{List, map}
use Prim.Native.Nat.{ℕ}
use lib.ListN.{length}
use Rattle.tle.specs.Printed.{matches_line}
use Rattle.element_lines.specs.Parts.{column_class}
use Rattle.element_lines.proofs.Matching as matching
use Rattle.element_lines.proofs.columns.matches.Given as goal

pub record Inv (table line : List ℕ) (before i : ℕ) : Type 0 where
  pub sizes : length line ≡ length table
  pub is : matching.left before i table line ≡ matches_line (map column_class table) line

abbrev pub invariant-loop-i : goal.invariant-loop-i
invariant-loop-i l = Inv l.table l.line l.before l.i
