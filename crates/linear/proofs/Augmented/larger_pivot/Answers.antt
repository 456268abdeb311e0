-- `Augmented::larger_pivot` meets its contract. Assumes nothing.
use mathlib.Core.Path.{◌≡◌}
use mathlib.Core.Bool.{true, false, cond}
use mathlib.Core.List.{List}
use Prim.Native.Nat.{ℕ}
use lib.Ieee.{Float, lt}
use Rattle.float.specs.Ops.{abs_of, at}
use Rattle.linear.specs.Elimination.{cell_of, larger_pivot}
use borrow.Author.Rules.{rules}
use Rattle.linear.proofs.Augmented.larger_pivot.Goals as goal

-- what the calls ensure: u and v are the entries, x and y their sizes
module _ (n i r m : ℕ) (a : List Float) (u v x y : Float) (eu : u ≡ at a (cell_of n r i)) (ev : v ≡ at a (cell_of n m i)) (ex : x ≡ abs_of u) (ey : y ≡ abs_of v) where
  picked : larger_pivot n a i r m ≡ cond (lt y x) r m
  unfolding larger_pivot
  picked = rw (ex, ey, eu, ev)

  larger : lt y x ≡ true → r ≡ larger_pivot n a i r m
  larger e = rw (picked, e)

  smaller : lt y x ≡ false → m ≡ larger_pivot n a i r m
  smaller e = rw (picked, e)

pub returns-then-abs : goal.returns-then-abs
returns-then-abs c = search (rules, larger)

pub returns-else-abs : goal.returns-else-abs
returns-else-abs c = search (rules, smaller)
