-- `sample_residuals` meets its contract. Both loops keep one equation: what is written, then what the definition still has to
-- give, is the whole. Assumes nothing.
use mathlib.Core.Path.{◌≡◌, refl, sym, ap, ◌∙◌}
use mathlib.Core.Option.{some}
use Prim.Native.Nat.{ℕ}
use native.Mathlib.Omega.{arith}
use lib.ListN.{length, take, length-set}
use Rattle.orbit.proofs.Hoisted.{sight_kept, sight_own, sight_sound}
use Rattle.residuals.proofs.Samples.{seen_prediction}
use Rattle.residuals.proofs.Laws.{then_nil, total_next, total_end, residual_is, residual_far, only_far, far_filled, all_filled, into_pass, next_sample, too_far, past_pass, past_passes}
use Rattle.residuals.proofs.sample_residuals.Goals as goal

pub passes-init : goal.passes-init
passes-init g c = record { clear = refl; left = omega arith; same = refl; whole = then_nil _ }

pub overflow_cast-end : goal.overflow_cast-end
overflow_cast-end g c = omega (arith, c.type_inv.count)

pub overflow_add-end : goal.overflow_add-end
overflow_add-end g c =
    omega (arith, c.args.obs.now.held.whole, c.args.obs.now.held.small, total_next c.args.obs.now.counts.now c.passes.p c.passes-test.true)

pub loop-j-init : goal.loop-j-init
loop-j-init g c =
    let counts = c.args.obs.now.counts.now in
    let step = total_next counts c.passes.p c.passes-test.true in
    record {
      clear = c.passes.invariant.clear;
      from = omega arith;
      upto = omega arith;
      inside = omega (arith, step, c.args.obs.now.held.whole);
      small = c.args.obs.now.held.small;
      pairs = c.args.obs.now.held.pairs;
      room = rw c.passes.invariant.same c.requires;
      left = omega (arith, step);
      same = refl;
      whole = into_pass _ _ c.passes.out c.passes.p c.passes.k counts c.passes-test.true c.passes.invariant.whole;
    }

pub shift-requires : goal.shift-requires
shift-requires g c = (
  sight_sound _ _ c.sight_of-sight.ensures c.args.obs.now.held.epoch,
  omega (arith, c.loop-j.invariant.from, c.loop-j.invariant.inside, c.loop-j-test.true),
  omega (arith, c.loop-j.invariant.inside, c.loop-j-test.true),
  sight_own _ _ c.sight_of-sight.ensures,
)

pub loop-j-preserved : goal.loop-j-preserved
loop-j-preserved g c =
    record {
      clear = c.loop-j.invariant.clear;
      from = omega arith;
      upto = omega arith;
      inside = c.loop-j.invariant.inside;
      small = c.loop-j.invariant.small;
      pairs = c.loop-j.invariant.pairs;
      room = simp length-set c.loop-j.invariant.room;
      left = c.loop-j.invariant.left;
      same = simp length-set c.loop-j.invariant.same;
      whole =
          next_sample _ _ c.loop-j.out _ _ c.loop-j.j _ _ _ c.loop-j-test.true
          (omega (arith, c.loop-j.invariant.inside, c.loop-j.invariant.room, c.loop-j-test.true))
          (residual_is _ _ _ _ _ _ _ _ _ _ _ c.elements_of.ensures c.dt-dt.ensures c.bias-b.ensures (seen_prediction _ _ _ _ _ _ _ _ (sight_kept _ _ c.sight_of-sight.ensures) c.shift.ensures) _ c.in-Ok.is)
          c.loop-j.invariant.whole;
    }

pub passes-preserved : goal.passes-preserved
passes-preserved g c =
    record {
      clear = c.loop-j.invariant.clear;
      left = omega arith;
      same = c.loop-j.invariant.same ∙ c.passes.invariant.same;
      whole = past_pass _ _ c.loop-j.out _ _ c.loop-j.j _ _ c.loop-j.invariant.upto c.loop-j-test.false c.loop-j.invariant.whole;
    }

pub returns-after-passes : goal.returns-after-passes
returns-after-passes g c =
    let args = c.args in
    let end : c.passes.k ≡ length args.obs.now.times.now = omega (arith, c.args.obs.now.held.whole, total_end args.obs.now.counts.now c.passes.p c.passes-test.false) in
    let whole = ap (λ (n : ℕ). some (take n c.passes.out)) (sym end) ∙ past_passes _ _ _ c.passes.p _ _ c.passes-test.false c.passes.invariant.whole in
    rw c.passes.invariant.clear (all_filled whole)

pub returns-in-Err : goal.returns-in-Err
returns-in-Err g c =
    let pred = seen_prediction _ _ _ _ _ _ _ _ (sight_kept _ _ c.sight_of-sight.ensures) c.shift.ensures in
    far_filled (too_far _ _ (take c.loop-j.j c.loop-j.out) _ _ c.loop-j.j _ _ c.loop-j-test.true
    (residual_far _ _ _ _ _ _ _ _ _ _ _ c.elements_of.ensures c.dt-dt.ensures c.bias-b.ensures pred _ c.in-Err.is)
    c.loop-j.invariant.whole)
    (only_far _ _ _ _ _ _ _ pred _ c.in-Err.is)
