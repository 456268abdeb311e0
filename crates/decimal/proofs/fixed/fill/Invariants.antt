-- `decimal::fixed::fill` meets its contract: what is still to be stored, on what is stored, is the whole. Assumes nothing.
use mathlib.Core.Path.{◌≡◌}
use Prim.Native.Nat.{◌-◌}
use lib.ListN.{length}
use lib.Seq.{sets}
use Rattle.decimal.specs.Fixed.{fixed_text}
use Rattle.decimal.proofs.fixed.fill.Given as goal

abbrev pub invariant-loop-k : goal.invariant-loop-k
invariant-loop-k l =
    (length l.column-items ≡ l.width) × (sets l.column-items l.k (fixed_text l.pad l.places l.n (l.width - l.k)) ≡ fixed_text l.pad l.places l.n l.width)
