-- `judge` meets its contract. Assumes nothing.
use Rattle.trials.proofs.Laws.{judged_kept, judged_damped, judged_left}
use Rattle.trials.proofs.judge.Goals.{then-damping, else-damping}
use Rattle.trials.proofs.judge.Goals as goal

pub returns-then-sum-s : goal.returns-then-sum-s
returns-then-sum-s c = judged_kept _ _ c.if-sum-s.true

pub returns : goal.returns
returns c =
    elim c.if-damping.branch [
      | then-damping w ↦ rw w.ended-is (judged_damped _ _ c.if-sum-s.false w.if-damping.true)
      | else-damping w ↦ rw w.ended-is (judged_left _ _ c.if-sum-s.false w.if-damping.false)
    ]
