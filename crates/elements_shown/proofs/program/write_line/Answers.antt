use Rattle.laws.proofs.Lists.{prefix}
use Rattle.elements_shown.proofs.program.write_line.Goals as goal

pub slice_bounds-write_all-end : goal.slice_bounds-write_all-end
slice_bounds-write_all-end c = prefix c.show_elements-n.result c.show_elements-n.new.out c.show_elements-n.ensures.room
