use borrow.Author.Tests.{le-leb, lt-leb}
use lib.Ieee.{of_bits, round}
use Rattle.frame.specs.Julian.{jd_of}
use Rattle.frame.proofs.jd.Goals as goal

pub returns-then-d-le-FEBRUARY : goal.returns-then-d-le-FEBRUARY
unfolding jd_of of_bits round
returns-then-d-le-FEBRUARY c = simp (c.julian.ensures, le-leb _ _ c.if-d-le-FEBRUARY.true)

pub returns-else-d-le-FEBRUARY : goal.returns-else-d-le-FEBRUARY
unfolding jd_of of_bits round
returns-else-d-le-FEBRUARY c = simp (c.julian-else-d-le-FEBRUARY.ensures, lt-leb _ _ c.if-d-le-FEBRUARY.false)
