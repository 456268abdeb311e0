-- `propose` meets its contract. Assumes nothing.
use Rattle.search.specs.Step.{proposal_of}
use Rattle.search.proofs.propose.Goals as goal

pub returns : goal.returns
unfolding proposal_of
returns c = simp (c.moved-u0.ensures, c.moved-raan0.ensures, c.next_f64-third.ensures, c.next_gaussian-second.ensures, c.next_gaussian-first.ensures)
