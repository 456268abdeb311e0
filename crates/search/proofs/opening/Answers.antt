-- `opening` meets its contract. Assumes nothing.
use Rattle.std.proofs.Common.{refl}
use lib.Ieee.{of_bits, round}
use Rattle.float.specs.Ops.{largest}
use Rattle.search.specs.Search.{opening_of}
use Rattle.search.proofs.opening.Goals as goal

pub returns : goal.returns
unfolding opening_of largest of_bits round
returns c = refl
