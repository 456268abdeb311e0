-- `mast_of` meets its contract. Assumes nothing.
use Rattle.std.proofs.Common.{Result, sym, ap, ◌∙◌}
use Rattle.refusal.specs.declared.Refusal.{Refusal}
use Rattle.frame.specs.declared.Vec3.{Vec3}
use Rattle.decimal.specs.Read.{number}
use Rattle.command_words.specs.Words.{mast_of, line_mast}
use Rattle.command_words.proofs.mast_of.Goals as goal

pub returns-then-not-is_line : goal.returns-then-not-is_line
unfolding mast_of
returns-then-not-is_line c = simp (sym c.is_line.ensures ∙ c.if-not-is_line.true) c.by_numbers.ensures

pub returns-in-Ok : goal.returns-in-Ok
unfolding mast_of
returns-in-Ok c =
    simp (sym c.is_line.ensures ∙ c.if-not-is_line.false)
    (c.inclined.ensures ∙ ap (λ (p : Result Vec3 Refusal). line_mast p (number c.args.y.now)) (sym c.in-Ok.is ∙ c.read_position.ensures))

pub returns-in-Err : goal.returns-in-Err
unfolding mast_of
returns-in-Err c =
    simp (sym c.is_line.ensures ∙ c.if-not-is_line.false)
    (ap (λ (p : Result Vec3 Refusal). line_mast p (number c.args.y.now)) (sym c.in-Err.is ∙ c.read_position.ensures))
