-- `decimal::ratio::Parts::next` meets its contract. Assumes nothing.
use mathlib.Core.Path.{ap, ◌∙◌}
use Prim.Native.Nat.{ℕ, ◌+◌, ◌*◌, ◌≤◌}
use native.Mathlib.Nat.{le_of_eq, le_refl, lt_of_le_of_lt}
use native.Mathlib.Omega.{arith}
use Rattle.decimal.specs.Wide.{val}
use Rattle.decimal.proofs.Doubling.{next_zero, next_one, next_less}
use Rattle.decimal.proofs.Ordered.{below, not_below}
use Rattle.decimal.proofs.ratio.Parts.next.Goals.{Else-lt}
use Rattle.decimal.proofs.ratio.Parts.next.Goals as goal

-- the double of the rest is no less than m
reached : (c : Else-lt) → val c.args.m ≤ val c.times-t.result
reached c = not_below c.times-t.result c.args.m c.lt.ensures c.if-lt.false

pub returns-then-lt : goal.returns-then-lt
returns-then-lt c =
    let t = c.times-t in
    let a = c.args in
    (next_zero a.self.q (val a.m) (val a.self.r) (val t.result) t.ensures, below t.result a.m c.lt.ensures c.if-lt.true, le_refl (a.self.q * 2), omega arith)

pub minus-requires : goal.minus-requires
minus-requires c = reached (goal.at.minus-requires c).Else-lt

pub returns-else-lt : goal.returns-else-lt
returns-else-lt c =
    let t = c.times-t in
    let a = c.args in
    let e = c.minus.ensures in (
      ap (λ (x : ℕ). (a.self.q * 2 + 1) * val a.m + x) e ∙ next_one a.self.q (val a.m) (val a.self.r) (val t.result) t.ensures (reached (goal.at.returns-else-lt c).Else-lt),
      lt_of_le_of_lt (le_of_eq e) (next_less (val a.self.r) (val a.m) (val t.result) c.requires.0 t.ensures (reached (goal.at.returns-else-lt c).Else-lt)),
      omega arith,
      le_refl (a.self.q * 2 + 1),
    )
