-- `is_line` meets its contract. Assumes nothing.
use mathlib.Core.Path.{◌∙◌}
use Rattle.command_words.specs.Words.{is_line}
use Rattle.command_words.proofs.Commas.{has}
use Rattle.command_words.proofs.is_line.Goals as goal

pub returns : goal.returns
unfolding is_line
returns c = c.contains.ensures.value ∙ has 44 c.args.w.now
