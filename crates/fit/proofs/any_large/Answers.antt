-- `any_large` meets its contract. Assumes nothing.
use mathlib.Core.Path.{refl}
use borrow.Author.Rules.{rules}
use Rattle.loops.proofs.Laws.{loops}
use Rattle.fit.specs.Answer.{biases, any_large}
use Rattle.fit.proofs.Laws.{all_large, large_more}
use Rattle.fit.proofs.any_large.Goals as goal

pub loop-p-init : goal.loop-p-init
unfolding biases any_large
loop-p-init c = (search rules, refl)

pub overflow_mul-df : goal.overflow_mul-df
overflow_mul-df c = search loops

pub overflow_add-df : goal.overflow_add-df
overflow_add-df c = search loops

pub overflow_add-df-in-loop-p : goal.overflow_add-df-in-loop-p
overflow_add-df-in-loop-p c = search loops

pub offset_bounds-x-p : goal.offset_bounds-x-p
offset_bounds-x-p c = search loops

pub bounds-x-p : goal.bounds-x-p
bounds-x-p c = search loops

pub or_large-large-requires : goal.or_large-large-requires
or_large-large-requires c = search loops

pub overflow_step-p : goal.overflow_step-p
overflow_step-p c = search loops

pub loop-p-smaller : goal.loop-p-smaller
loop-p-smaller c = search loops

pub loop-p-preserved : goal.loop-p-preserved
loop-p-preserved c = (search rules, large_more _ _ _ _ c.loop-p.invariant.1 c.or_large-large.ensures)

pub returns : goal.returns
returns c = all_large _ _ _ _ c.loop-p.invariant.0 c.loop-p-test.false c.loop-p.invariant.1
