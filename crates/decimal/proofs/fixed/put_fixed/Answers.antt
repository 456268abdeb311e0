-- `decimal::fixed::put_fixed` meets its contract. Assumes nothing.
use mathlib.Core.Path.{sym, ap, ◌∙◌}
use mathlib.Core.Bool.{Bool, ◌&&◌}
use native.Mathlib.Omega.{arith}
use lib.ListN.{length}
use borrow.Author.Tests.{le-ltb}
use Rattle.laws.proofs.Tests.{and_false, false_behind}
use Rattle.decimal.specs.Fixed.{fits, printable}
use Rattle.decimal.proofs.Printable.{Fitting, fitting, yes}
use Rattle.decimal.proofs.fixed.put_fixed.Goals.{Else-not-fits}
use Rattle.decimal.proofs.fixed.put_fixed.Goals as goal

-- the tests that were passed
passed : (c : Else-not-fits) → let a = c.args in Fitting a.v a.places a.width a.at (length a.out.now)
passed c = fitting _ _ _ _ _ (sym c.fits.ensures ∙ c.if-not-fits.false)

pub power-requires : goal.power-requires
power-requires c = omega (arith, passed (goal.at.power-requires c).Else-not-fits)

pub overflow_sub-width : goal.overflow_sub-width
overflow_sub-width c = omega (arith, passed (goal.at.overflow_sub-width c).Else-not-fits)

pub power-requires-2 : goal.power-requires-2
power-requires-2 c = omega (arith, passed (goal.at.power-requires-2 c).Else-not-fits)

pub fill-requires : goal.fill-requires
fill-requires c = let p = passed (goal.at.fill-requires c).Else-not-fits in (omega (arith, p.4, p.5), omega (arith, p.3), p.1)

pub returns-then-not-fits-clause-value : goal.returns-then-not-fits-clause-value
unfolding printable
returns-then-not-fits-clause-value c = and_false _ _ (sym c.fits.ensures ∙ c.if-not-fits.true)

pub scaled-n-requires : goal.scaled-n-requires
scaled-n-requires c = let p = passed (goal.at.scaled-n-requires c).Else-not-fits in (p.0, c.power.ensures, p.1)

pub returns-then-power-n-clause-value : goal.returns-then-power-n-clause-value
unfolding printable
returns-then-power-n-clause-value c =
    let a = c.args in
    sym (ap (λ (b : Bool). fits a.v a.places a.width a.at (length a.out.now) && b) (le-ltb _ _ (omega (arith, c.power-2.ensures, c.scaled-n.ensures, c.if-power-n.true))) ∙ false_behind _)

pub returns-clause-value : goal.returns-clause-value
returns-clause-value c =
    yes _ _ _ _ _ (passed (goal.at.returns-clause-value c).Else-not-fits) (omega (arith, c.power-2.ensures, c.scaled-n.ensures, c.if-power-n.false))
