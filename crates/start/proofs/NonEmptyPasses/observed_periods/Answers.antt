-- `observed_periods` meets its contract. Assumes nothing.
use mathlib.Core.Path.{refl}
use native.Mathlib.Omega.{arith}
use Rattle.loops.proofs.Laws.{begins, again, ends}
use Rattle.pass_set.proofs.Laws.{first_pass, next_pass}
use Rattle.start.specs.Start.{periods_of}
use Rattle.start.proofs.Passes.{small, second_pass, period_is}
use Rattle.start.proofs.NonEmptyPasses.observed_periods.Goals as goal

pub obs_of-t0-requires : goal.obs_of-t0-requires
obs_of-t0-requires c = (first_pass _, c.requires)

pub loop-p-init : goal.loop-p-init
unfolding periods_of
loop-p-init c = (second_pass _ c.requires, begins refl, c.obs_of-t0.ensures.0, c.obs_of-t0.ensures.1)

pub obs_of-t-requires : goal.obs_of-t-requires
obs_of-t-requires c = (c.loop-p.invariant.0, c.loop-p-test.true)

pub overflow_add-k : goal.overflow_add-k
overflow_add-k c = omega (arith, small c.args.self.now.sampled c.loop-p.invariant.0 c.loop-p-test.true)

pub loop-p-preserved : goal.loop-p-preserved
loop-p-preserved c =
    let i = c.loop-p.invariant in (
      next_pass c.loop-p-test.true i.0,
      again c.loop-p-test.true i.1 (period_is _ _ _ _ _ _ _ _ _ _ c.add_period-s.ensures c.tau_millis.ensures c.obs_of-t.ensures.0 i.2),
      i.2,
      i.3,
    )

pub returns : goal.returns
returns c = ends c.loop-p-test.false c.loop-p.invariant.1
