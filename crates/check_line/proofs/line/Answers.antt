use Rattle.check_line.proofs.line.Goals as goal

pub returns : goal.returns
returns c = rw (← c.read_pass_file-r.ensures.says) c.answer.ensures
