-- `answer_lines::hex::digit` meets its contract. Assumes nothing.
use native.Mathlib.Omega.{arith}
use Rattle.answer_lines.proofs.Digits.{is_digit_lem, is_letter_lem}
use Rattle.answer_lines.proofs.hex.digit.Goals as goal

pub returns-then-c-lt58 : goal.returns-then-c-lt58
returns-then-c-lt58 c = (is_digit_lem c.args.c c.if-c-lt58.true, omega arith)

pub returns-else-c-lt58 : goal.returns-else-c-lt58
returns-else-c-lt58 c = (is_letter_lem c.args.c c.if-c-lt58.false, omega arith)
