-- `decimal::ratio::moved` meets its contract. Assumes nothing.
use mathlib.Core.Path.{sym, ap, ◌∙◌}
use Prim.Native.Nat.{◌*◌, ◌%◌}
use lib.Ieee.{nearest}
use Rattle.decimal.specs.Rounding.{order}
use Rattle.decimal.proofs.Ordered.{order_nat}
use Rattle.decimal.proofs.Quick.{by_parts}
use Rattle.decimal.proofs.ratio.moved.Goals as goal

pub returns : goal.returns
returns c =
    let a = c.args in
    c.rounded.ensures ∙ ap (nearest _) (ap order c.cmp.ensures ∙ order_nat (a.d % a.b * a.p % a.b * 2) a.b) ∙ sym (by_parts a.d a.b a.p c.requires.0)
