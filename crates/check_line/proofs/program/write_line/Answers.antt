use Rattle.laws.proofs.Lists.{prefix}
use Rattle.check_line.proofs.program.write_line.Goals as goal

pub slice_bounds-write_all-end : goal.slice_bounds-write_all-end
slice_bounds-write_all-end c = prefix c.check_line-n.result c.check_line-n.new.out c.check_line-n.ensures.room
