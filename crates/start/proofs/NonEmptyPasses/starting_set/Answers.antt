-- `starting_set` meets its contract. Assumes nothing.
use native.Mathlib.Omega.{arith}
use Rattle.loops.proofs.Laws.{begins, again, ends}
use Rattle.pass_set.proofs.Laws.{first_pass, next_pass}
use Rattle.start.specs.Start.{starting_set}
use Rattle.start.proofs.Passes.{small, some, pass_dt_is, put_is}
use Rattle.start.proofs.NonEmptyPasses.starting_set.Goals as goal

pub loop-p-init : goal.loop-p-init
unfolding starting_set
loop-p-init g c = (first_pass _, begins (rw c.with_elements-x.ensures))

pub pass-requires : goal.pass-requires
pass-requires g c = (c.loop-p.invariant.0, c.loop-p-test.true)

pub dt_of-dt-requires : goal.dt_of-dt-requires
dt_of-dt-requires g c = some c.args.self.now.sampled c.loop-p-test.true c.pass.ensures.freqs

pub place_of-at-requires : goal.place_of-at-requires
place_of-at-requires g c = omega (arith, c.args.self.now.sampled.sizes.few, c.loop-p-test.true)

pub bounds-x-at : goal.bounds-x-at
bounds-x-at g c = omega (arith, c.args.self.now.sampled.sizes.few, c.loop-p-test.true, c.place_of-at.ensures.1)

pub overflow_add-k : goal.overflow_add-k
overflow_add-k g c = omega (arith, small c.args.self.now.sampled c.loop-p.invariant.0 c.loop-p-test.true)

pub loop-p-preserved : goal.loop-p-preserved
loop-p-preserved g c =
    let i = c.loop-p.invariant in (
      next_pass c.loop-p-test.true i.0,
      again c.loop-p-test.true i.1 (put_is _ _ _ _ _ _ _ _ _ _ c.place_of-at.ensures.0 (pass_dt_is _ _ _ _ _ _ _ _ _ _ _ c.pass.ensures.times c.pass.ensures.freqs c.seen-v.ensures c.dt_of-dt.ensures)),
    )

pub returns : goal.returns
returns g c = ends c.loop-p-test.false c.loop-p.invariant.1
