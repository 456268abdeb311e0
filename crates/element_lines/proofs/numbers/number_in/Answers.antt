use mathlib.Core.Path.{◌∙◌}
use Rattle.element_lines.proofs.Digits.{part}
use Rattle.element_lines.proofs.numbers.number_in.Goals as goal

pub returns : goal.returns
returns c = (c.digits.ensures.0 ∙ part c.args.a c.args.b c.args.line.now c.requires.0, c.digits.ensures.1)
