-- `largest_step` meets its contract. Assumes nothing.
use native.Mathlib.Omega.{arith}
use lib.Ieee.{nan}
use lib.ListN.{length-append}
use borrow.Author.Rules.{rules}
use Rattle.std.proofs.lemmas.Slice.Zip.{zip_turn, zip_end}
use Rattle.loops.proofs.Laws.{again, ends, loops}
use Rattle.normal.specs.Step.{least_size_bits, relative, largest_step}
use Rattle.normal.proofs.largest_step.Goals as goal

pub loop-p-init : goal.loop-p-init
unfolding largest_step
loop-p-init c = search loops

pub loop-p-preserved : goal.loop-p-preserved
unfolding relative
loop-p-preserved c =
    let pair = zip_turn c.args.x.now c.args.delta.now _ _ _ c.next.new.self _ (search rules) (search rules) c.loop-p.yielded_by _ c.in-Some.is c.next.ensures.steps in
    rw length-append (again pair.1 c.loop-p.invariant (simp (least_size_bits, c.max-largest.ensures, c.abs-in-loop-p.ensures, c.max-size.ensures, c.abs.ensures, pair.2 nan, pair.3 nan)))

pub returns : goal.returns
returns c =
    let all = zip_end c.args.x.now c.args.delta.now _ _ _ c.next.new.self _ (search rules) (search rules) c.loop-p.yielded_by c.in-None.is c.next.ensures.steps in
    ends (omega (arith, all, c.requires)) c.loop-p.invariant
