-- `reach` meets its contract. Assumes nothing.
use mathlib.Core.Bool.{true, false}
use Rattle.trials.specs.Trials.{state_search}
use Rattle.trials.proofs.Laws.{reached}
use Rattle.trials.proofs.reach.Goals.{then-size, else-size}
use Rattle.trials.proofs.reach.Goals as goal

pub returns : goal.returns
returns c =
    let a = c.args in
    elim c.if-size.branch [
      | then-size w ↦ rw w.ended-is (reached (state_search a.s) a.params _ true w.if-size.true)
      | else-size w ↦ rw w.ended-is (reached (state_search a.s) a.params _ false w.if-size.false)
    ]
