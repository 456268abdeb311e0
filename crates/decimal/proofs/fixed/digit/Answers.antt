-- `decimal::fixed::digit` meets its contract. Assumes nothing.
use Rattle.decimal.proofs.Round.{ten_pos}
use Rattle.decimal.proofs.fixed.digit.Goals as goal

pub nonzero_div-result : goal.nonzero_div-result
nonzero_div-result c = rw c.power.ensures (ten_pos c.args.i)
