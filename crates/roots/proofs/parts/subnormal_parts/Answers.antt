-- `roots::parts::subnormal_parts` meets its contract. Assumes nothing.
use mathlib.Core.Path.{refl}
use native.Mathlib.Omega.{arith}
use Rattle.roots.proofs.Units.{subnormal_digits, subnormal_parts}
use Rattle.roots.proofs.parts.subnormal_parts.Goals as goal

pub overflow_sub-shift : goal.overflow_sub-shift
overflow_sub-shift c = let t = subnormal_digits c.args.b c.requires.0 c.requires.1 in omega (arith, t.1, t.4)

pub returns : goal.returns
returns c = rw c.from.ensures (subnormal_parts c.args.b _ c.requires.0 c.requires.1 refl)
