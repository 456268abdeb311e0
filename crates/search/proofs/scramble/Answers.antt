-- `scramble` meets its contract. Assumes nothing.
use Rattle.search.specs.Step.{scramble_of}
use Rattle.search.proofs.scramble.Goals as goal

pub returns : goal.returns
unfolding scramble_of
returns c = simp (c.scrambled-2.ensures, c.scrambled.ensures, c.perturbation-n.ensures, c.prime-p.ensures)
