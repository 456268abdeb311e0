-- `add_word` meets its contract. Assumes nothing.
use Rattle.command.proofs.Sets.{stops}
use Rattle.pass_files.proofs.add_word.Goals as goal

pub returns-in_default : goal.returns-in_default
returns-in_default g c = stops _ _

pub returns-in_default-open : goal.returns-in_default-open
returns-in_default-open g c = stops _ _
