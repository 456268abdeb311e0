-- `answer_lines::fill` meets its contract. Assumes nothing.
use Rattle.answer_lines.proofs.Laws.{filling_none, filling_more, filling_all}
use Rattle.answer_lines.proofs.fill.Goals as goal

pub loop-i-init : goal.loop-i-init
loop-i-init g c = filling_none (g.T.Element.read c.args.fields.now) g.T.Element.none c.args.out.now

pub loop-i-preserved : goal.loop-i-preserved
loop-i-preserved g c = filling_more (g.T.Element.read c.args.fields.now) g.T.Element.none c.read.result c.loop-i.invariant c.loop-i-test.true c.read.ensures

pub returns : goal.returns
returns g c = filling_all (g.T.Element.read c.args.fields.now) g.T.Element.none c.loop-i.invariant c.loop-i-test.false
