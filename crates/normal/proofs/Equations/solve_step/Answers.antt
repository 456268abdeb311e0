-- `Equations::solve_step` meets its contract. Assumes nothing.
use mathlib.Core.Path.{refl}
use borrow.Author.Rules.{rules}
use Rattle.normal.proofs.Moves.{through_plain, through_scales}
use Rattle.normal.proofs.Equations.solve_step.Goals.{then-this-ne0, else-this-ne0}
use Rattle.normal.proofs.Equations.solve_step.Goals as goal

pub returns : goal.returns
returns g c =
    let s = c.args.self.now in
    elim c.if-this-ne0.branch [
      | then-this-ne0 w ↦
          through_scales _ _ _ _ _ _ _ _ _ (search rules) w.scale_factors.ensures w.scale.ensures.after (rw (w.scale.ensures.right, s.right) at w.divide.ensures)
          (rw (w.self-is, w.factors-is, w.scale.ensures.size) at c.move_by.ensures)
      | else-this-ne0 w ↦ through_plain _ _ _ _ _ _ _ (rw w.if-this-ne0.false refl) (rw w.self-is at c.move_by.ensures)
    ]
