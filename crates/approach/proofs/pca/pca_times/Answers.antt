-- `pca_times` meets its contract. Assumes nothing.
use Rattle.std.proofs.Common.{refl, ◌∙◌, rules, arith}
use lib.ListN.{length-set}
use mir.Syntax.{w64}
use mir.Val.{SFits}
use mir.ValLaws.{to_z-of_z}
use Rattle.loops.proofs.Laws.{begins, again, ends, loops}
use Rattle.pass_set.proofs.Laws.{first_pass, next_pass, part_fits}
use Rattle.approach.specs.Pca.{pca_times_of}
use Rattle.approach.proofs.Tables.{no_window}
use Rattle.approach.proofs.Passes.{pass_put, seen_pcas}
use Rattle.approach.proofs.pca.pca_times.Goals as goal

pub returns-then-set-eq0 : goal.returns-then-set-eq0
unfolding pca_times_of
returns-then-set-eq0 c = ends (omega arith) (begins refl)

pub bounds-set-0 : goal.bounds-set-0
bounds-set-0 c = search loops

pub loop-p-init : goal.loop-p-init
unfolding pca_times_of
loop-p-init c = (first_pass _, refl, begins refl)

pub pass-pass-requires : goal.pass-pass-requires
pass-pass-requires c = (c.loop-p.invariant.0, c.loop-p-test.true)

pub pred_pca_time-t-requires : goal.pred_pca_time-t-requires
pred_pca_time-t-requires c = no_window _ _ _

pub overflow_add-k : goal.overflow_add-k
overflow_add-k c =
    let s = c.args.set.now.sound in
    omega (arith, part_fits s c.loop-p-test.true c.loop-p.invariant.0, s.sizes.small)

pub loop-p-preserved : goal.loop-p-preserved
loop-p-preserved c =
    let f : SFits w64 c.to_nanos.result = search rules in (
      next_pass c.loop-p-test.true c.loop-p.invariant.0,
      simp length-set c.loop-p.invariant.1,
      again c.loop-p-test.true c.loop-p.invariant.2 (pass_put _ _ _ _ _ _ _ c.pass-pass.ensures.times c.pass-pass.ensures.freqs _ _ _ (to_z-of_z w64 c.to_nanos.result f ∙ c.to_nanos.ensures) c.pred_pca_time-t.ensures.0),
    )

pub shape_of-out : goal.shape_of-out
shape_of-out c = search loops

pub returns : goal.returns
returns c = seen_pcas c.seen-v.ensures _ _ _ _ _ _ (ends c.loop-p-test.false c.loop-p.invariant.2)
