-- `roots::parts::split` meets its contract. Assumes nothing.
use native.Mathlib.Omega.{arith}
use Rattle.roots.proofs.Units.{normal_parts}
use Rattle.roots.proofs.parts.split.Goals as goal

pub returns-in_default : goal.returns-in_default
returns-in_default c = normal_parts c.args.b c.requires.1 (λ e. omega (arith, e))
