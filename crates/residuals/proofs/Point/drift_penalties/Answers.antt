-- `Point::drift_penalties` meets its contract, as `dt_penalties` does, with two stores a turn. Assumes nothing.
use Rattle.std.proofs.Common.{arith, ◌≡◌, refl, sym, ap, ◌∙◌, ◌+◌, ◌*◌}
use mathlib.Core.List.{◌++◌}
use native.Mathlib.Nat.{sub-zero}
use lib.ListN.{take, length-set}
use Rattle.residuals.proofs.Laws.{stored, drift_next, drift_end, all_taken}
use Rattle.residuals.proofs.Point.drift_penalties.Goals as goal

pub loop-p-init : goal.loop-p-init
loop-p-init g c = rw sub-zero refl

pub loop-p-preserved : goal.loop-p-preserved
loop-p-preserved g c =
    let l = c.loop-p in
    let next : 2 * (l.p + 1) ≡ 2 * l.p + 1 + 1 = omega arith in
    rw next
    (stored _ (2 * l.p + 1) _ _ (simp length-set (omega (arith, l.auto.out, c.requires.1, c.loop-p-test.true)))
    ∙ stored l.out (2 * l.p) _ _ (omega (arith, l.auto.out, c.requires.1, c.loop-p-test.true))
    ∙ ap (take (2 * l.p) l.out ++◌) (sym (drift_next c.args.self.now.params l.p c.args.passes c.loop-p-test.true))
    ∙ l.invariant)

pub returns : goal.returns
returns g c =
    let l = c.loop-p in
    all_taken l.out (2 * l.p) _ (omega (arith, l.auto.out, c.requires.1, c.loop-p-test.false)) (drift_end c.args.self.now.params l.p c.args.passes c.loop-p-test.false) ∙ l.invariant
