-- `inclined` meets its contract. Assumes nothing.
use Rattle.std.proofs.Common.{rules, sym, ◌∙◌}
use Rattle.command_words.proofs.Steps.{goes, stops}
use Rattle.command_words.proofs.inclined.Goals as goal

pub returns-in_err-degrees : goal.returns-in_err-degrees
returns-in_err-degrees c = stops _ (sym c.number.ensures ∙ c.in_err-degrees.was) (search rules)

pub returns : goal.returns
returns c = goes _ (sym c.number.ensures ∙ c.in_ok-degrees.was) (search rules)
