-- An array's length, by a law at any number of places: counted, it takes long. Assumes nothing.
use mathlib.Core.Path.{◌≡◌, sym}
use Prim.Native.Nat.{ℕ}
use lib.ListN.{length, replicate, length-replicate}

pub sized : {A : Type 0} (n : ℕ) (a : A) → n ≡ length (replicate n a)
sized n a = sym (length-replicate n a)
