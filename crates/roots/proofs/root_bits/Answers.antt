-- `roots::root_bits` meets its contract: `square_bits` of `proofs/Bits.antt`, at the rest of g by 2. Assumes nothing.
use mathlib.Core.Path.{refl}
use Prim.Native.Nat.{◌*◌, ◌%◌, ◌^◌}
use native.Mathlib.Omega.{arith}
use lib.Dec.{lit≤}
use Rattle.roots.proofs.Bits.{shifted, square_bits}
use Rattle.roots.proofs.root_bits.Goals as goal

pub nearest_root-requires : goal.nearest_root-requires
nearest_root-requires c =
    let s = shifted c.args.m (c.args.g % 2) 54 c.requires.0 c.requires.1 (omega arith) (lit≤ tt) in
    rw s.exact (omega (arith, s.least), s.most)

pub returns : goal.returns
returns c =
    let s = shifted c.args.m (c.args.g % 2) 54 c.requires.0 c.requires.1 (omega arith) (lit≤ tt) in
    square_bits c.args.m c.args.g (c.args.m * 2 ^ (c.args.g % 2)) c.nearest_root.result (c.args.g % 2) refl refl s.least s.most c.requires.2 (rw s.exact at c.nearest_root.ensures)

pub overflow_add-result : goal.overflow_add-result
overflow_add-result c = omega (arith, (returns c).1)
