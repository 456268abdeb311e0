-- `passes::file::scan` meets its contract. Assumes nothing.
use borrow.Author.Rules.{rules}
use Rattle.passes.proofs.Files.{LineAt, line_at, scanning_start, scanning_ready, scanning_more, scanning_refused, scanning_end}
use Rattle.passes.proofs.file.scan.Goals.{After-line-c}
use Rattle.passes.proofs.file.scan.Goals as goal

-- the line at hand
here : (c : After-line-c) → LineAt c.args.file.now c.loop-at.at c.line-c.result.size c.line-c.result.next
here c = line_at c.args.file.now c.loop-at.at c.line-c.result.size c.line-c.result.next c.loop-at.invariant.read.inside c.line-c.ensures

pub loop-at-init : goal.loop-at-init
loop-at-init c = scanning_start c.opening-s.ensures c.requires

pub step-requires : goal.step-requires
step-requires c = scanning_ready c.loop-at.invariant (here (goal.at.step-requires c).After-line-c)

pub returns-in_err-s : goal.returns-in_err-s
returns-in_err-s c = scanning_refused c.loop-at.invariant (here (goal.at.returns-in_err-s c).After-line-c) c.step.ensures c.in_err-s.was (search rules)

pub loop-at-preserved : goal.loop-at-preserved
loop-at-preserved c = scanning_more c.loop-at.invariant (here (goal.at.loop-at-preserved c).After-line-c) c.step.ensures c.in_ok-s.was

pub returns : goal.returns
returns c = scanning_end c.loop-at.invariant c.loop-at-test.false
