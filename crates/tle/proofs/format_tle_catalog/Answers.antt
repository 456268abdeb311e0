use Rattle.std.proofs.Common.{rules, refl, sym, ◌∙◌}
use Rattle.moment.proofs.Ranges.{at_is, outside}
use Rattle.tle.proofs.Answers.{bad_moment, bad_orbit, bad_name, too_short, formatted}
use Rattle.tle.proofs.format_tle_catalog.Goals.{then-not-accepted_orbit-via-then-not-accepted_orbit, then-not-accepted_orbit-via-else-not-accepted_orbit+then-not-accepted_name}
use Rattle.tle.proofs.format_tle_catalog.Goals as goal

pub returns-in_err-epoch : goal.returns-in_err-epoch
returns-in_err-epoch c =
    let o = outside _ _ _ (sym c.in_err-epoch.was ∙ c.try_from.ensures) in
    bad_moment (search rules) o.0 o.1

pub returns-then-not-accepted_orbit : goal.returns-then-not-accepted_orbit
returns-then-not-accepted_orbit c =
    let t = at_is _ _ _ (sym c.in_ok-epoch.was ∙ c.try_from.ensures) in
    elim c.then-not-accepted_orbit.branch [
      | then-not-accepted_orbit-via-then-not-accepted_orbit w ↦ bad_orbit refl t.yes (sym c.accepted_orbit.ensures ∙ w.if-not-accepted_orbit.true)
      | then-not-accepted_orbit-via-else-not-accepted_orbit+then-not-accepted_name w ↦ bad_name refl t.yes (sym c.accepted_orbit.ensures ∙ w.if-not-accepted_orbit.false) (sym w.accepted_name.ensures ∙ w.if-not-accepted_name.true)
    ]

pub returns-then-out-length : goal.returns-then-out-length
returns-then-out-length c =
    too_short refl (at_is _ _ _ (sym c.in_ok-epoch.was ∙ c.try_from.ensures)).yes
    (sym c.accepted_orbit.ensures ∙ c.if-not-accepted_orbit.false)
    (sym c.accepted_name.ensures ∙ c.if-not-accepted_name.false)
    c.if-out-length.true

pub first_line-requires : goal.first_line-requires
first_line-requires c = (at_is _ _ _ (sym c.in_ok-epoch.was ∙ c.try_from.ensures)).accepted

pub returns : goal.returns
returns c =
    formatted _ _ _ _ _ _ _ (at_is _ _ _ (sym c.in_ok-epoch.was ∙ c.try_from.ensures))
    (sym c.accepted_orbit.ensures ∙ c.if-not-accepted_orbit.false)
    (sym c.accepted_name.ensures ∙ c.if-not-accepted_name.false)
    c.if-out-length.false c.first_line.ensures c.second_line.ensures c.join.ensures
