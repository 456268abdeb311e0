-- `starting_set` meets its contract. Assumes nothing.
use lib.ListN.{length}
use Rattle.residuals.proofs.Laws.{flag}
use Rattle.loops.proofs.Laws.{Left}
use Rattle.pass_set.specs.PassSet.{AtPass}
use Rattle.start.specs.Start.{put_dt, starting_set}
use Rattle.start.proofs.NonEmptyPasses.starting_set.Given as goal

abbrev pub invariant-loop-p : goal.invariant-loop-p
invariant-loop-p g l =
    let s = l.self in
    AtPass s.counts.now l.p l.k
    × Left l.p (length s.counts.now) (put_dt s.counts.now s.times.now s.freqs.now l.fn.g l.fn.e (flag g.row.SECOND)) l.x (starting_set s.counts.now s.times.now s.freqs.now l.fn.g l.fn.e (flag g.row.SECOND))
