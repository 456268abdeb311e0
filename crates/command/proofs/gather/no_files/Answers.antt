-- `no_files` meets its contract. Assumes nothing.
use Rattle.std.proofs.Common.{rules}
use Rattle.command.proofs.Sets.{opened}
use Rattle.command.proofs.gather.no_files.Goals as goal

pub returns : goal.returns
returns c = opened c.args.name.now _ (search rules) c.put-size.ensures
