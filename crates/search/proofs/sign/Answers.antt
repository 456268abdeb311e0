-- `sign` meets its contract. Assumes nothing.
use Rattle.search.specs.Step.{sign_of}
use Rattle.search.proofs.sign.Goals as goal

pub returns-then-gradient : goal.returns-then-gradient
unfolding sign_of
returns-then-gradient c = simp c.if-gradient.true

pub returns-else-gradient : goal.returns-else-gradient
unfolding sign_of
returns-else-gradient c = simp (c.signum.ensures, c.if-gradient.false)
