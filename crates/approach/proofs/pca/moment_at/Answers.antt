-- `moment_at` meets its contract. Assumes nothing.
use Rattle.std.proofs.Common.{◌∙◌, ap, rules, pos, get_or}
use mir.Syntax.{w64}
use mir.Val.{SFits}
use mir.ValLaws.{to_z-of_z}
use Rattle.moment.specs.Sample.{instant_at}
use Rattle.approach.proofs.pca.moment_at.Goals as goal

pub of_nanos-requires : goal.of_nanos-requires
of_nanos-requires c =
    let f : SFits w64 (get_or c.args.times.now c.args.k (pos 0)) = search rules in
    rw (to_z-of_z w64 _ f) (c.requires.0.each c.args.k c.requires.1)

pub returns : goal.returns
returns c =
    let f : SFits w64 (get_or c.args.times.now c.args.k (pos 0)) = search rules in
    (c.of_nanos.ensures.0 ∙ ap instant_at (to_z-of_z w64 _ f), c.of_nanos.ensures.1)
