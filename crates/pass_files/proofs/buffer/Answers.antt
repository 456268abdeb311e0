-- `buffer` meets its contract. The length is a law's, at any number of bytes: counted, it is too long. Assumes nothing.
use mathlib.Core.Path.{◌≡◌, sym}
use Prim.Native.Nat.{ℕ}
use lib.ListN.{length, replicate, length-replicate}
use Rattle.pass_files.proofs.buffer.Goals as goal

sized : (n a : ℕ) → n ≡ length (replicate n a)
sized n a = sym (length-replicate n a)

pub returns : goal.returns
returns c = sized 1114113 0
