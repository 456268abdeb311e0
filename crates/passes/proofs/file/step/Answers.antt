-- `passes::file::step` meets its contract: where a name stands fits. Assumes nothing.
use native.Mathlib.Omega.{arith}
use Rattle.passes.proofs.Files.{name_in}
use Rattle.passes.proofs.file.step.Goals as goal

pub overflow_add-result : goal.overflow_add-result
overflow_add-result c =
    let n = name_in c.args.file.now c.args.at c.args.n {y = c.in_ok-x.x} {p = c.in-Name.p} c.requires.room c.read_line.ensures c.in_ok-x.was c.in-Name.is in
    omega (arith, n.0, n.1)

pub overflow_add-result-in-Name : goal.overflow_add-result-in-Name
overflow_add-result-in-Name c =
    let n = name_in c.args.file.now c.args.at c.args.n {y = c.in_ok-x.x} {p = c.in-Name.p} c.requires.room c.read_line.ensures c.in_ok-x.was c.in-Name.is in
    omega (arith, n.0, n.1)
