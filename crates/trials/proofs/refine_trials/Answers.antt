-- `refine_trials` meets its contract. The loop's invariant: state, log and count are those of the book after n trials, which still
-- runs. Each way out ends the book there, and a book that has ended stays as it is. Assumes nothing.
use mathlib.Core.Path.{refl, sym, ◌∙◌}
use native.Mathlib.Omega.{arith}
use borrow.Author.Rules.{rules}
use lib.ListN.{length-set}
use Rattle.residuals.specs.Answers.{passes_in}
use Rattle.residuals.proofs.Laws.{flag}
use Rattle.trials.proofs.Laws.{summed, summed_far, kept_held}
use Rattle.trials.proofs.Loop.{stops_of, ended_of, started, opens_from, stops_full, stops_far, stops_tried, stops_followed, goes_on, stops_other, stops_small, goes_large}
use Rattle.trials.proofs.refine_trials.Goals as goal

pub loop-n-init : goal.loop-n-init
loop-n-init g c = (opens_from _ _ c.open-s.ensures _ _ _ _ _, refl, refl)

pub trial-t-requires : goal.trial-t-requires
trial-t-requires g c =
    omega (arith, c.args.obs.now.held.few, c.args.obs.now.held.small)

pub offset_bounds-log-n : goal.offset_bounds-log-n
offset_bounds-log-n g c =
    record { fits = omega (arith, c.loop-n-test.true, c.requires.2) }

pub bounds-log-n : goal.bounds-log-n
bounds-log-n g c =
    omega (arith, c.loop-n-test.true, c.requires.1, c.loop-n.invariant.0.same)

pub overflow_add-n : goal.overflow_add-n
overflow_add-n g c =
    record { fits = omega (arith, c.loop-n-test.true, c.requires.2) }

pub follow-f-requires : goal.follow-f-requires
follow-f-requires g c =
    let a = c.args in (
      rw c.loop-n.invariant.1 c.requires.0,
      record {
        room = omega (arith, c.args.obs.now.held.few, c.args.obs.now.held.small, c.trial-t.auto.r);
        held = λ k. kept_held (flag g.row.SECOND) a.obs.now.station (passes_in a.obs.now) _ _ _ _ c.trial-t.ensures (sym c.in-Ok.is) k;
      },
    )

pub loop-n-smaller : goal.loop-n-smaller
loop-n-smaller g c = omega (arith, c.loop-n-test.true)

pub loop-n-preserved : goal.loop-n-preserved
loop-n-preserved g c =
    let a = c.args in (
      goes_on _ _ _ _ _ _ _ _ _ c.loop-n.invariant.0 c.loop-n-test.true c.requires.1 _ c.trial-t.ensures.after _ (summed (flag g.row.SECOND) a.obs.now.station (passes_in a.obs.now) c.loop-n.s.params _ _ _ c.trial-t.ensures.summed (sym c.in-Ok.is)) _ c.in-Running.is c.follow-f.ensures.arrives
          (goes_large _ _ _ c.follow-f.ensures.arrives _ c.in-Next.is c.if-size.false),
      c.follow-f.auto.scratch ∙ c.loop-n.invariant.1,
      c.follow-f.ensures.behind ∙ c.loop-n.invariant.2,
    )

pub returns-after-loop-n : goal.returns-after-loop-n
returns-after-loop-n g c =
    record { runs = rw (started _ _ c.open-s.ensures) at (stops_full _ _ _ _ _ _ _ _ _ c.loop-n.invariant.0 (search rules)); behind = c.loop-n.invariant.2 }

pub returns-in_default : goal.returns-in_default
returns-in_default g c =
    let a = c.args in
    record {
      runs = rw (started _ _ c.open-s.ensures) at (stops_far _ _ _ _ _ _ _ _ _ c.loop-n.invariant.0 c.loop-n-test.true c.requires.1 _ c.trial-t.ensures.after (summed_far (flag g.row.SECOND) a.obs.now.station (passes_in a.obs.now) c.loop-n.s.params _ _ _ c.trial-t.ensures.summed (sym c.in_default.is)));
      behind = c.loop-n.invariant.2;
    }

pub returns-in_default-ended : goal.returns-in_default-ended
returns-in_default-ended g c =
    let a = c.args in
    record {
      runs = rw (started _ _ c.open-s.ensures) at (stops_tried _ _ _ _ _ _ _ _ _ c.loop-n.invariant.0 c.loop-n-test.true c.requires.1 _ c.trial-t.ensures.after _ (summed (flag g.row.SECOND) a.obs.now.station (passes_in a.obs.now) c.loop-n.s.params _ _ _ c.trial-t.ensures.summed (sym c.in-Ok.is)) (ended_of _ c.in_default-ended.not-Running));
      behind = c.loop-n.invariant.2;
    }

pub shape_of-log-in_default-step : goal.shape_of-log-in_default-step
shape_of-log-in_default-step g c = simp length-set c.loop-n.invariant.0.same

pub shape_of-scratch-in_default-step : goal.shape_of-scratch-in_default-step
shape_of-scratch-in_default-step g c = c.follow-f.auto.scratch ∙ c.loop-n.invariant.1

pub returns-in_default-step : goal.returns-in_default-step
returns-in_default-step g c =
    let a = c.args in
    record {
      runs = rw (started _ _ c.open-s.ensures) at (stops_followed _ _ _ _ _ _ _ _ _ c.loop-n.invariant.0 c.loop-n-test.true c.requires.1 _ c.trial-t.ensures.after _ (summed (flag g.row.SECOND) a.obs.now.station (passes_in a.obs.now) c.loop-n.s.params _ _ _ c.trial-t.ensures.summed (sym c.in-Ok.is)) _ c.in-Running.is c.follow-f.ensures.arrives
          (stops_other _ _ _ c.follow-f.ensures.arrives (stops_of _ c.in_default-step.not-Next)));
      behind = c.follow-f.ensures.behind ∙ c.loop-n.invariant.2;
    }

pub shape_of-log-then-size : goal.shape_of-log-then-size
shape_of-log-then-size g c = simp length-set c.loop-n.invariant.0.same

pub shape_of-scratch-then-size : goal.shape_of-scratch-then-size
shape_of-scratch-then-size g c = c.follow-f.auto.scratch ∙ c.loop-n.invariant.1

pub returns-then-size : goal.returns-then-size
returns-then-size g c =
    let a = c.args in
    record {
      runs = rw (started _ _ c.open-s.ensures) at (stops_followed _ _ _ _ _ _ _ _ _ c.loop-n.invariant.0 c.loop-n-test.true c.requires.1 _ c.trial-t.ensures.after _ (summed (flag g.row.SECOND) a.obs.now.station (passes_in a.obs.now) c.loop-n.s.params _ _ _ c.trial-t.ensures.summed (sym c.in-Ok.is)) _ c.in-Running.is c.follow-f.ensures.arrives
          (stops_small _ _ _ c.follow-f.ensures.arrives _ c.in-Next.is c.if-size.true));
      behind = c.follow-f.ensures.behind ∙ c.loop-n.invariant.2;
    }
