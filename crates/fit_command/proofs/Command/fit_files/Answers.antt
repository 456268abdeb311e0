-- `fit_files` is safe and ends. Assumes nothing.
use native.Mathlib.Omega.{arith}
use Rattle.command.proofs.Sets.{held}
use Rattle.fit_command.proofs.Sizing.{sizes_of}
use Rattle.fit_command.proofs.Command.fit_files.Goals as goal

pub check_and_fit-requires : goal.check_and_fit-requires
check_and_fit-requires g c =
    sizes_of (held c.gather_files.ensures c.in-Ok.is) (omega arith) (omega arith)
