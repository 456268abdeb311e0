use borrow.Author.Rules.{rules}
use Rattle.check_line.proofs.Lines.{checks}
use Rattle.check_line.proofs.check_line.Goals as goal

pub returns : goal.returns
returns c = rw c.len.ensures (checks _ _ (search rules) c.min.ensures c.new-text.ensures.begins c.line.ensures)
