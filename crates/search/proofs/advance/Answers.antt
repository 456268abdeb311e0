-- `advance` meets its contract. Assumes nothing.
use Rattle.std.proofs.Common.{ap}
use Rattle.search.proofs.Draws.{draw_start, draw_one, all_drawn}
use Rattle.search.proofs.advance.Goals as goal

pub loop-init : goal.loop-init
loop-init c = draw_start _ _

pub loop-preserved : goal.loop-preserved
loop-preserved c = draw_one c.loop-test.true (ap (λ d. d.rng) c.next_f64.ensures) c.loop.invariant

pub returns : goal.returns
returns c = all_drawn c.loop-test.false c.loop.invariant
