-- `grid` meets its contract. Assumes nothing.
use lib.Ieee.{of_bits, round}
use Rattle.search.specs.Search.{grid_of}
use Rattle.search.proofs.grid.Goals as goal

pub returns : goal.returns
unfolding grid_of of_bits round
returns c = simp (c.to_radians.ensures, c.nearest_u64_to_f64.ensures)
