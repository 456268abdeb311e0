-- `put_biases` meets its contract. Assumes nothing.
use mathlib.Core.Path.{refl}
use borrow.Author.Rules.{rules}
use Rattle.loops.proofs.Laws.{loops}
use Rattle.fit.specs.Answer.{biases}
use Rattle.fit.proofs.Laws.{bias_more, all_biases}
use Rattle.fit.proofs.put_biases.Goals as goal

pub loop-p-init : goal.loop-p-init
unfolding biases
loop-p-init c = (search rules, refl, refl)

pub overflow_mul-out : goal.overflow_mul-out
overflow_mul-out c = search loops

pub overflow_add-out : goal.overflow_add-out
overflow_add-out c = search loops

pub overflow_add-out-in-loop-p : goal.overflow_add-out-in-loop-p
overflow_add-out-in-loop-p c = search loops

pub offset_bounds-x-p : goal.offset_bounds-x-p
offset_bounds-x-p c = search loops

pub bounds-x-p : goal.bounds-x-p
bounds-x-p c = search loops

pub offset_bounds-out-p : goal.offset_bounds-out-p
offset_bounds-out-p c = search loops

pub bounds-out-p : goal.bounds-out-p
bounds-out-p c = search loops

pub overflow_step-p : goal.overflow_step-p
overflow_step-p c = search loops

pub loop-p-smaller : goal.loop-p-smaller
loop-p-smaller c = search loops

pub loop-p-preserved : goal.loop-p-preserved
loop-p-preserved c = (search rules, search rules, bias_more _ _ _ _ _ (search rules) c.loop-p.invariant.2)

pub shape_of-out : goal.shape_of-out
shape_of-out c = search loops

pub returns : goal.returns
returns c = all_biases _ _ _ _ _ _ c.loop-p.invariant.0 c.loop-p-test.false c.loop-p.invariant.2
