-- `jacobian` meets its contract. Assumes nothing.
use mathlib.Core.Path.{◌≡◌}
use Rattle.loops.proofs.Laws.{Tries}
use Rattle.loops.specs.Loop.{try}
use Rattle.refine.specs.Jacobian.{eps_of, column_of}
use Rattle.residuals.specs.Answers.{passes_in}
use Rattle.residuals.proofs.Laws.{flag}
use Rattle.residuals.specs.Residuals.{residuals}
use lib.ListN.{length}
use Rattle.refine.proofs.jacobian.Given as goal

abbrev pub invariant-loop-k : goal.invariant-loop-k
invariant-loop-k g l =
    let t = l.initial.table in
    let column = column_of (eps_of (flag g.row.SECOND)) (residuals (flag g.row.SECOND) l.obs.station (passes_in l.obs)) l.p.params t.residuals.now (length t.residuals.now) t.n in
    (l.table.n ≡ t.n) × (l.table.residuals.now ≡ t.residuals.now) × Tries l.k t.n column l.table.entries.now (try 0 t.n column t.entries.now)
