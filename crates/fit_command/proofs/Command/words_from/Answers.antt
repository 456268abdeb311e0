-- `words_from` is safe and ends. Assumes nothing.
use mathlib.Core.Path.{sym, ◌∙◌}
use Rattle.command_words.proofs.Counted.{few_files}
use Rattle.fit_command.proofs.Command.words_from.Goals as goal

pub fit_request-requires : goal.fit_request-requires
fit_request-requires g c = few_files _ _ _ _ _ _ (sym c.request_of-request.ensures ∙ c.in-Ok.is)
