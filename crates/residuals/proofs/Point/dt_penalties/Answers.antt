-- `Point::dt_penalties` meets its contract: what is written, then the penalties still to come, is the whole. Assumes nothing.
use Rattle.std.proofs.Common.{arith, refl, sym, ap, ◌∙◌, length}
use mathlib.Core.List.{◌++◌}
use native.Mathlib.Nat.{sub-zero}
use lib.ListN.{take}
use Rattle.residuals.proofs.Laws.{flag, stored, dt_next, dt_end, all_taken}
use Rattle.residuals.proofs.Point.dt_penalties.Goals as goal

pub loop-p-init : goal.loop-p-init
loop-p-init g c = rw sub-zero refl

pub loop-p-preserved : goal.loop-p-preserved
loop-p-preserved g c =
    let l = c.loop-p in
    stored l.out l.p _ _ (omega (arith, l.auto.out, c.loop-p-test.true))
    ∙ ap (take l.p l.out ++◌) (sym (dt_next (flag g.row.SECOND) c.args.self.now.params l.p (length c.args.out.now) _ c.dt.ensures c.loop-p-test.true))
    ∙ l.invariant

pub returns : goal.returns
returns g c =
    let l = c.loop-p in
    all_taken l.out l.p _ (omega (arith, l.auto.out, c.loop-p-test.false)) (dt_end (flag g.row.SECOND) c.args.self.now.params l.p (length c.args.out.now) c.loop-p-test.false) ∙ l.invariant
