-- `survey` meets its contract. Assumes nothing.
use Rattle.std.proofs.Common.{rules}
use native.Mathlib.Omega.{arith}
use Rattle.passes.proofs.Files.{LineAt, line_at}
use Rattle.survey.proofs.Surveys.{walk_begins, walk_more, walk_refused, walk_small, walk_ends}
use Rattle.survey.proofs.survey.Goals.{After-line-c}
use Rattle.survey.proofs.survey.Goals as goal

-- the line at hand
here : (c : After-line-c) → LineAt c.args.file.now c.loop-at.at c.line-c.result.size c.line-c.result.next
here c = line_at _ _ _ _ c.loop-at.invariant.inside c.line-c.ensures

pub loop-at-init : goal.loop-at-init
loop-at-init c = walk_begins _

pub overflow_add-e : goal.overflow_add-e
overflow_add-e c = let h = here (goal.at.overflow_add-e c).After-line-c in omega (arith, h.size, h.inside)

pub slice_bounds-class_of-end : goal.slice_bounds-class_of-end
slice_bounds-class_of-end c = let h = here (goal.at.slice_bounds-class_of-end c).After-line-c in omega (arith, h.size, h.inside)

pub counted-s-requires : goal.counted-s-requires
counted-s-requires c =
    walk_small c.loop-at.invariant c.loop-at-test.true (omega arith)

pub returns-then-is_some : goal.returns-then-is_some
returns-then-is_some c =
    walk_refused c.loop-at.invariant (here (goal.at.returns-then-is_some c).After-line-c) c.class_of.ensures c.counted-s.ensures (search rules)

pub overflow_add-at : goal.overflow_add-at
overflow_add-at c = let h = here (goal.at.overflow_add-at c).After-line-c in omega (arith, h.inside)

pub loop-at-smaller : goal.loop-at-smaller
loop-at-smaller c = let h = here (goal.at.loop-at-smaller c).After-line-c in omega (arith, h.inside, h.more)

pub loop-at-preserved : goal.loop-at-preserved
loop-at-preserved c =
    walk_more c.loop-at.invariant (here (goal.at.loop-at-preserved c).After-line-c) c.class_of.ensures c.counted-s.ensures (search rules)

pub returns : goal.returns
returns c = walk_ends c.loop-at-test.false c.loop-at.invariant
