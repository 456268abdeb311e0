-- `geodetic::line::place` meets its contract. Assumes nothing.
use mathlib.Core.Path.{sym, ◌∙◌}
use Rattle.geodetic.specs.Ellipsoid.{wgs84_to_ecef_of}
use Rattle.geodetic.proofs.Numbers.{three_long, three_taken}
use Rattle.geodetic.proofs.line.place.Goals as goal

pub returns-then-is_one_too_long : goal.returns-then-is_one_too_long
returns-then-is_one_too_long c = three_long _ _ _ (sym c.is_one_too_long.ensures ∙ c.if-is_one_too_long.true)

pub returns : goal.returns
returns c =
    c.wgs84_to_ecef.ensures ∙ (λ j. wgs84_to_ecef_of (c.value.ensures j) (c.value-2.ensures j) (c.value-3.ensures j)) ∙ three_taken _ _ _ (sym c.is_one_too_long.ensures ∙ c.if-is_one_too_long.false)
