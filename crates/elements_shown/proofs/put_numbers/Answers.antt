use Rattle.append.proofs.Appending.{both}
use Rattle.elements_shown.specs.Shown.{numbers_line}
use Rattle.elements_shown.proofs.put_numbers.Goals as goal

pub returns : goal.returns
unfolding numbers_line
returns c =
    both c.put_item.ensures (both c.put_item-2.ensures (both c.put_item-3.ensures (both c.put_item-4.ensures (both c.put_item-5.ensures (both c.put_number.ensures c.put.ensures)))))
