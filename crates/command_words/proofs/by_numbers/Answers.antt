-- `by_numbers` meets its contract. Assumes nothing.
use Rattle.std.proofs.Common.{rules, sym, ◌∙◌}
use Rattle.command_words.proofs.Steps.{goes, stops}
use Rattle.command_words.proofs.by_numbers.Goals as goal

pub returns-in_err-x : goal.returns-in_err-x
returns-in_err-x c = stops _ (sym c.number.ensures ∙ c.in_err-x.was) (search rules)

pub returns-in_err-y : goal.returns-in_err-y
returns-in_err-y c = goes _ (sym c.number.ensures ∙ c.in_ok-x.was) (stops _ (sym c.number-2.ensures ∙ c.in_err-y.was) (search rules))

pub returns-in_err-z : goal.returns-in_err-z
returns-in_err-z c =
    goes _ (sym c.number.ensures ∙ c.in_ok-x.was) (goes _ (sym c.number-2.ensures ∙ c.in_ok-y.was) (stops _ (sym c.number-3.ensures ∙ c.in_err-z.was) (search rules)))

pub returns : goal.returns
returns c =
    goes _ (sym c.number.ensures ∙ c.in_ok-x.was) (goes _ (sym c.number-2.ensures ∙ c.in_ok-y.was) (goes _ (sym c.number-3.ensures ∙ c.in_ok-z.was) c.inclined.ensures))
