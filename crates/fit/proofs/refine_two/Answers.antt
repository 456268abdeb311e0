-- `refine_two` meets its contract. Assumes nothing.
use Rattle.fit.specs.Work.{observed_in}
use Rattle.fit.proofs.Steps.{two_refines, two_ends}
use Rattle.fit.proofs.refine_two.Goals as goal

pub refine_passes-requires : goal.refine_passes-requires
refine_passes-requires c = two_refines _ c.start_elements-e.auto.scratch c.requires

pub returns : goal.returns
returns c =
    let a = c.args in
    two_ends a.a a.i (observed_in a.x.now) _ _ _ _ _ c.start_elements-e.ensures c.rows_of-rows.ensures.0 c.refine_passes.ensures
