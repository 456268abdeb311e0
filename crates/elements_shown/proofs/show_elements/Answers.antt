use borrow.Author.Rules.{rules}
use Rattle.elements_shown.proofs.Showing.{shows}
use Rattle.elements_shown.proofs.show_elements.Goals as goal

pub returns : goal.returns
returns c =
    rw c.len.ensures (shows _ _ (search rules) c.read_part-part.ensures c.first_line-line1.ensures c.second_line-line2.ensures c.read_element_lines.ensures c.new-text.ensures.begins c.put_answer.ensures)
