use mathlib.Core.Path.{sym, ◌∙◌}
use native.Mathlib.Omega.{arith}
use Rattle.decimal.proofs.Grammar.{digit_range}
use Rattle.element_lines.proofs.numbers.with_byte.Goals as goal

pub overflow_sub-result : goal.overflow_sub-result
overflow_sub-result c = (digit_range _ (sym c.is_digit.ensures ∙ c.if-is_digit.true)).0

pub overflow_add-result : goal.overflow_add-result
overflow_add-result c = omega (arith, (digit_range c.args.c (sym c.is_digit.ensures ∙ c.if-is_digit.true)).1)

pub returns-then-is_digit : goal.returns-then-is_digit
returns-then-is_digit c = let e = sym c.is_digit.ensures ∙ c.if-is_digit.true in (simp e, omega (arith, (digit_range c.args.c e).1))

pub returns : goal.returns
returns c = (simp (sym c.is_digit.ensures ∙ c.if-is_digit.false), omega arith)
