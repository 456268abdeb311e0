-- `orbit_of` meets its contract. Assumes nothing.
use lib.ListN.{get_or}
use mir.Syntax.{w64}
use mir.ValLaws.{to_z-of_z}
use Rattle.fit.proofs.orbit_of.Goals as goal

pub to_moment-epoch-requires : goal.to_moment-epoch-requires
to_moment-epoch-requires c =
    let back = to_z-of_z w64 (get_or c.args.times.now 0 _) (record { sfits = c.to_moment-arg-1.given }) in
    rw back (c.requires.0.each 0 c.requires.1)

pub returns : goal.returns
returns c =
    let back = to_z-of_z w64 (get_or c.args.times.now 0 _) (record { sfits = c.to_moment-arg-1.given }) in
    rw (c.to_moment-epoch.ensures, back)
