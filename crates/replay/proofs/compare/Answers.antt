-- `compare` meets its contract: the lines counted, and those of the text that is left, are the text's lines. Assumes nothing.
use native.Mathlib.Omega.{arith}
use Rattle.replay.proofs.Counting.{line, whole, ended, one_more}
use Rattle.replay.proofs.compare.Goals as goal

pub loop-at-init : goal.loop-at-init
loop-at-init c = (omega arith, omega arith, whole c.args.text.now)

pub loop-at-preserved : goal.loop-at-preserved
loop-at-preserved c =
    let text = c.args.text.now in
    let i = c.loop-at.invariant in
    let one = line text c.loop-at.at c.line_end-end.result c.loop-at-test.true c.line_end-end.ensures.0 in
    (omega (arith, c.line_end-end.ensures.1), omega (arith, one_more c.tallied-t.ensures, i.1, c.line_end-end.ensures.0), omega (arith, one_more c.tallied-t.ensures, i.2, one))

pub returns : goal.returns
returns c =
    omega (arith, c.loop-at.invariant.2, ended c.args.text.now c.loop-at.at c.loop-at-test.false)
