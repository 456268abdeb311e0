-- `answer_lines::hex::word` meets its contract: a turn reads one more digit. Assumes nothing.
use Rattle.answer_lines.proofs.Digits.{Read}
use Rattle.answer_lines.proofs.hex.word.Given as goal

abbrev pub invariant-loop-c : goal.invariant-loop-c
invariant-loop-c l = Read l.digits l.value l.c-index
