-- `step` meets its contract. Assumes nothing.
use Rattle.search.specs.Step.{step_of}
use Rattle.search.proofs.step.Goals as goal

pub returns : goal.returns
unfolding step_of
returns c = simp (c.chosen.ensures, c.sum_at-other_rss.ensures, c.scramble-other.ensures, c.propose-next.ensures, c.gradient_signs-s.ensures, c.sum_at-rss.ensures)
