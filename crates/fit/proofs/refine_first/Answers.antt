-- `refine_first` meets its contract. Assumes nothing.
use mathlib.Core.Path.{refl, sym}
use native.Mathlib.Omega.{arith}
use lib.Seq.{length-take-le}
use Rattle.fit.specs.Work.{observed_in}
use Rattle.fit.proofs.Steps.{two_start, two_fits, two_set, room_for_two, first_ends}
use Rattle.fit.proofs.refine_first.Goals as goal

pub slice_bounds-set-end-2 : goal.slice_bounds-set-end-2
slice_bounds-set-end-2 c = sym (length-take-le _ _ (two_fits c.args.x.now c.requires))

pub slice_bounds-set-end-3 : goal.slice_bounds-set-end-3
slice_bounds-set-end-3 c = sym (length-take-le _ _ (omega (arith, two_fits c.args.x.now c.requires, c.args.x.now.sampled.sizes.pairs)))

pub invariant_of-set : goal.invariant_of-set
invariant_of-set c = record { sound = two_set c.args.x.now c.requires _ refl }

pub refine_two-requires : goal.refine_two-requires
refine_two-requires c = room_for_two c.args.x.now c.requires _ refl refl

pub returns : goal.returns
returns c =
    let a = c.args in
    first_ends _ _ (observed_in a.x.now) _ _ (two_start _ c.requires.two) c.refine_two.ensures
