-- `open` meets its contract. Assumes nothing.
use lib.Ieee.{of_bits, round}
use Rattle.float.specs.Ops.{one}
use Rattle.float.specs.Ops.{largest}
use Rattle.book.specs.Book.{open_book}
use mathlib.Core.Path.{refl}
use Rattle.trials.proofs.open.Goals as goal

pub returns : goal.returns
unfolding open_book one largest of_bits round
returns c = refl
