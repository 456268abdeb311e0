-- `turned` meets its contract. Assumes nothing.
use native.Mathlib.Nat.{le_trans}
use native.Mathlib.Omega.{arith}
use Rattle.residuals.specs.Answers.{passes_in}
use Rattle.residuals.proofs.Laws.{flag}
use Rattle.probes.proofs.Calls.{cells_few, held_of, trial_ended, trial_followed}
use Rattle.probes.proofs.turned.Goals as goal

pub trial-t-requires : goal.trial-t-requires
trial-t-requires g c = omega (arith, c.args.obs.now.held.few, c.args.obs.now.held.small)

pub returns-in_default : goal.returns-in_default
returns-in_default g c =
    let a = c.args in
    trial_ended (flag g.row.SECOND) a.obs.now.station (passes_in a.obs.now) _ _ c.trial-t.ensures.after c.in_default.not-Running

pub follow-requires : goal.follow-requires
follow-requires g c =
    let a = c.args in
    let h = a.obs.now.held in (
      le_trans (cells_few (flag g.row.SECOND) (passes_in a.obs.now) h.few h.small) c.requires,
      record {
        room = omega (arith, h.few, h.small, c.trial-t.auto.r);
        held = λ k. held_of (flag g.row.SECOND) a.obs.now.station (passes_in a.obs.now) _ _ _ c.trial-t.ensures k;
      },
    )

pub returns : goal.returns
returns g c =
    let a = c.args in
    trial_followed (flag g.row.SECOND) a.obs.now.station (passes_in a.obs.now) _ _ c.trial-t.ensures.after _ _ _ c.place_of.ensures.0 c.rows.ensures.0
    c.in-Running.is c.follow.ensures.arrives.after
