-- `decimal::ratio::divided` meets its contract: after i turns the parts are the quotient and the rest of n * 2 ^ i, and n is m and the first rest. Assumes nothing.
use mathlib.Core.Path.{◌≡◌, ap, ◌∙◌, subst}
use Prim.Native.Nat.{ℕ, ◌+◌, ◌*◌, ◌^◌, ◌≤◌, ◌<◌}
use native.Mathlib.Nat.{le_refl}
use native.Mathlib.Omega.{arith}
use lib.Dec.{lit<}
use Rattle.decimal.specs.Wide.{val}
use Rattle.decimal.proofs.Doubling.{quotient_next, first_less, first_sum, first_quotient, digits_kept, digits_few}
use Rattle.decimal.proofs.ratio.divided.Goals as goal

pub loop-init : goal.loop-init
loop-init c =
    let d = c.minus in
    (first_quotient (val c.args.m) (val d.result), first_less (val c.args.n) (val c.args.m) (val d.result) d.ensures c.requires.0 c.requires.1, le_refl 1, lit< tt)

pub next-parts-requires : goal.next-parts-requires
next-parts-requires c =
    let l = c.loop in
    (l.invariant.1, c.requires.2, digits_few l.counter l.parts.q (omega arith) l.invariant.3)

pub loop-preserved : goal.loop-preserved
loop-preserved c =
    let l = c.loop in
    let p = c.next-parts in
    let k = digits_kept l.counter l.parts.q p.result.q l.invariant.2 l.invariant.3 p.ensures.2 p.ensures.3 in
    (p.ensures.0 ∙ quotient_next _ l.counter _ l.invariant.0, p.ensures.1, k.0, k.1)

pub returns : goal.returns
returns c =
    let l = c.loop in
    let d = c.minus in
    let i : l.counter ≡ 52 = omega arith in (
      l.invariant.0 ∙ ap (λ (x : ℕ). (val c.args.m + val d.result) * 2 ^ x) i ∙ ap (λ (x : ℕ). x * 2 ^ 52) (first_sum (val c.args.n) (val c.args.m) (val d.result) d.ensures c.requires.0),
      l.invariant.1,
      subst (λ (x : ℕ). 2 ^ x ≤ l.parts.q) i l.invariant.2,
      subst (λ (x : ℕ). l.parts.q < 2 ^ x * 2) i l.invariant.3,
    )
