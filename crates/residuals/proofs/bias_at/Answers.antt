-- `bias_at` meets its contract. Assumes nothing.
use mathlib.Core.Path.{◌≡◌}
use lib.Ieee.{Float}
use Rattle.orbit.specs.Doppler.{bias_of}
use Rattle.orbit.specs.declared.doppler.DfPoly.{DfPoly}
use Rattle.residuals.specs.Residuals.{bias_at}
use Rattle.residuals.specs.declared.Bias.{Bias}
use Rattle.residuals.specs.declared.Bias.TheVariants.{Polynomial}
use borrow.Author.Rules.{rules}
use Rattle.residuals.proofs.bias_at.Goals as goal

-- the bias y of the polynomial d that b is, at the seconds x
polynomial : (b : Bias) (d : DfPoly) (tau x y : Float) → b ≡ Polynomial d → x ≡ tau → y ≡ bias_of d x → y ≡ bias_at b tau
polynomial b d tau x y eb ex ey = rw (ey, ex, eb)

pub returns-in-Polynomial : goal.returns-in-Polynomial
returns-in-Polynomial c = search (rules, polynomial)
