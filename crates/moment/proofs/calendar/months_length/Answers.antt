-- `moment::calendar::months_length` meets its contract. Assumes nothing.
use Rattle.std.proofs.Common.{◌≡◌, ℕ, ◌+◌, ◌-◌, ◌≤◌, refl, arith}
use Rattle.moment.specs.Calendar.{months_length}
use Rattle.moment.proofs.Lengths.{months_more, same_months}
use Rattle.moment.proofs.calendar.months_length.Goals as goal

back : {m : ℕ} → 1 ≤ m → m - 1 + 1 ≡ m
back h = omega arith

pub loop-m-init : goal.loop-m-init
unfolding months_length
loop-m-init c = (omega arith, omega arith, record { is = refl; most = omega arith })

pub overflow_add-days : goal.overflow_add-days
overflow_add-days c = omega (arith, c.month_length-days.ensures.most, c.loop-m.invariant.2.most)

pub loop-m-preserved : goal.loop-m-preserved
loop-m-preserved c = (omega arith, omega arith, same_months (omega (arith, c.loop-m.invariant.0)) (months_more c.loop-m.invariant.2 (rw (back (c.loop-m.invariant.0)) c.month_length-days.ensures)))

pub returns : goal.returns
returns c = same_months (omega arith) c.loop-m.invariant.2
