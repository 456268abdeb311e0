-- `sample` meets its contract. Assumes nothing.
use mathlib.Core.Path.{ap}
use lib.Dec.{lit≤}
use lib.IntN.{pos}
use lib.ListN.{get_or}
use Rattle.moment.proofs.Samples.{within_more}
use Rattle.orbit.specs.Doppler.{frequency_of}
use Rattle.approach.specs.Sums.{sample_of}
use Rattle.approach.proofs.Tables.{held_moment}
use Rattle.approach.proofs.sums.sample.Goals as goal

pub turn_at-turn-requires : goal.turn_at-turn-requires
turn_at-turn-requires c =
    let m = c.moment_at-t.ensures in
    (within_more (lit≤ tt) m.1, held_moment (get_or c.args.pass.now.times.now c.args.n (pos 0)) m.0 c.requires.2)

pub shift_at-pred_f-requires : goal.shift_at-pred_f-requires
shift_at-pred_f-requires c = (c.requires.0, c.moment_at-t.ensures.1, c.turn_at-turn.ensures)

pub returns : goal.returns
unfolding sample_of
returns c = simp (ap frequency_of c.shift_at-pred_f.ensures.is, c.moment_at-t.ensures.0)
