-- `gradient_signs` meets its contract: the gradient's differences by the two angles are the slopes. Assumes nothing.
use Rattle.approach.specs.Sums.{gradient_of}
use Rattle.search.specs.Sum.{fixed_sum}
use Rattle.search.specs.Step.{slope_raan, slope_u, signs_of}
use Rattle.search.proofs.gradient_signs.Goals as goal

pub returns : goal.returns
unfolding signs_of slope_raan slope_u fixed_sum gradient_of
returns c = simp (c.sign-2.ensures, c.sign.ensures, c.gradient-g.ensures, c.elements-e.ensures)
