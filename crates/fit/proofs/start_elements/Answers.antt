-- `start_elements` meets its contract. Assumes nothing.
use Rattle.fit.specs.Work.{observed_in}
use Rattle.fit.proofs.Steps.{elements_found}
use Rattle.fit.proofs.start_elements.Goals as goal

pub returns : goal.returns
returns c = let a = c.args in elements_found a.a a.i (observed_in a.x.now) _ _ c.requires.two a.x.now.centred c.search-best.ensures
