-- `Equations::move_by` meets its contract. Assumes nothing.
use mathlib.Core.Path.{refl, ◌∙◌}
use Prim.Native.Nat.{◌≤◌}
use native.Mathlib.Omega.{arith}
use borrow.Author.Rules.{rules}
use lib.Seq.{length-take-le}
use Rattle.linear.proofs.Places.{cells_few}
use Rattle.normal.proofs.Moves.{no_pivot, moved_scaled, moved_plain}
use Rattle.normal.proofs.Equations.move_by.Goals.{then-this-ne0, else-this-ne0}
use Rattle.normal.proofs.Equations.move_by.Goals as goal

pub returns-in_default : goal.returns-in_default
returns-in_default g c =
    let s = c.args.self.now in
    no_pivot _ _ _ _ _ _ _ _ s.grid s.right (length-take-le _ _ (omega (arith, s.grid.narrow))) (omega (arith, cells_few _ s.grid.narrow)) c.solve_linear_system.ensures _ _ _ _ c.in_default.is

pub returns : goal.returns
returns g c =
    let s = c.args.self.now in
    let few : s.n ≤ 68 = s.grid.narrow in
    let long = length-take-le _ _ (omega (arith, few)) in
    let wide = c.solve_linear_system.auto.out ∙ long in
    elim c.if-this-ne0.branch [
      | then-this-ne0 w ↦ moved_scaled _ _ _ _ _ _ _ _ s.grid s.right long (omega (arith, cells_few _ s.grid.narrow)) c.solve_linear_system.ensures _ _ _ _ _ _ _ _ (c.if-this-ne0.auto.delta ∙ wide) wide c.in-Ok.is c.take_step.ensures (search rules) (w.delta-is ∙ w.divide.ensures)
      | else-this-ne0 w ↦ moved_plain _ _ _ _ _ _ _ _ s.grid s.right long (omega (arith, cells_few _ s.grid.narrow)) c.solve_linear_system.ensures _ _ _ _ _ _ _ _ (c.if-this-ne0.auto.delta ∙ wide) wide c.in-Ok.is c.take_step.ensures (rw w.if-this-ne0.false refl) w.delta-is
    ]
