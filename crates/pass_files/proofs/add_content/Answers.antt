-- `add_content` meets its contract. Assumes nothing.
use Rattle.command.proofs.Sets.{stops, goes_on, ends}
use Rattle.pass_files.proofs.add_content.Goals as goal

pub returns-in_default : goal.returns-in_default
returns-in_default g c = stops _ _

pub returns-in-Ok : goal.returns-in-Ok
returns-in-Ok g c = goes_on _ _ c.add.ensures c.in-Ok.is

pub returns-in-Err : goal.returns-in-Err
returns-in-Err g c = ends _ _ c.add.ensures c.in-Err.is
