-- `refine_trials` meets its contract. The loop's invariant: state, log and count are those of the book after n trials, which still
-- runs. Each way out ends the book there, and a book that has ended stays as it is. Assumes nothing.
use Prim.Native.Nat.{◌-◌}
use lib.ListN.{length, drop}
use mathlib.Core.Path.{◌≡◌}
use Rattle.residuals.specs.Answers.{passes_in}
use Rattle.residuals.proofs.Laws.{flag}
use Rattle.residuals.specs.Residuals.{penalised_sum}
use Rattle.refine.specs.Advance.{advance_of, cells_of}
use Rattle.trials.proofs.Loop.{Inv}
use Rattle.trials.proofs.refine_trials.Given as goal

abbrev pub invariant-loop-n : goal.invariant-loop-n
invariant-loop-n g l =
    Inv (penalised_sum (flag g.row.SECOND) l.obs.station (passes_in l.obs)) (advance_of (flag g.row.SECOND) l.obs.station (passes_in l.obs)) l.enough l.most l.initial.s.params l.initial.log l.log l.s l.n
    × (length l.scratch ≡ length l.initial.scratch)
    × (drop (cells_of (flag g.row.SECOND) (passes_in l.obs)) l.scratch ≡ drop (cells_of (flag g.row.SECOND) (passes_in l.obs)) l.initial.scratch)

abbrev pub decreases-loop-n : goal.decreases-loop-n
decreases-loop-n g l = l.most - l.n
