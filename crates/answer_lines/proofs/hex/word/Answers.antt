-- `answer_lines::hex::word` meets its contract: a turn reads one more digit. Assumes nothing.
use Rattle.std.proofs.Common.{ℕ, List, ◌≡◌, ◌≤◌, length, take, ap, ◌∙◌, arith}
use lib.ListN.{length-take}
use Rattle.answer_lines.proofs.Digits.{begin, fits, more, read_all}
use Rattle.answer_lines.proofs.hex.word.Goals as goal

at_most : (l : List ℕ) {digits : List ℕ} → digits ≡ take 16 l → length digits ≤ 16
at_most l e = omega (arith, ap length e, length-take 16 l)

pub loop-c-init : goal.loop-c-init
loop-c-init c = begin c.first-digits.result.now

pub overflow_mul-value : goal.overflow_mul-value
overflow_mul-value c = let f = fits c.loop-c.invariant.room c.loop-c-test.true (at_most _ c.first-digits.ensures) in omega (arith, f)

pub overflow_add-value : goal.overflow_add-value
overflow_add-value c = let f = fits c.loop-c.invariant.room c.loop-c-test.true (at_most _ c.first-digits.ensures) in omega (arith, f, c.digit.ensures.1)

pub loop-c-preserved : goal.loop-c-preserved
loop-c-preserved c = more c.loop-c.invariant c.loop-c-test.true c.digit.ensures.0 c.digit.ensures.1

pub returns : goal.returns
returns c = read_all c.args.line.now c.args.at c.loop-c.invariant c.loop-c-test.false (c.first-digits.ensures ∙ ap (take 16) c.after.ensures)
