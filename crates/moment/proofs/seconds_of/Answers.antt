use Rattle.std.proofs.Common.{T, ℤ, nat_abs, sym, ap, subst, arith, w64, Fits}
use lib.Signed.{non_neg}
use Rattle.moment.proofs.Signs.{cast_after, add_after, gone_before, read_between}
use Rattle.moment.proofs.seconds_of.Goals as goal

pub overflow_cast-result : goal.overflow_cast-result
overflow_cast-result c = cast_after c.args.s c.ranges.s c.if-s-ge0.true

pub overflow_add-result : goal.overflow_add-result
overflow_add-result c = record { fits = (add_after c.args.s c.ranges.s c.if-s-ge0.true).0 }

pub returns-then-s-ge0 : goal.returns-then-s-ge0
returns-then-s-ge0 c = (add_after c.args.s c.ranges.s c.if-s-ge0.true).1

pub returns-then-s-ltminus17592186044416 : goal.returns-then-s-ltminus17592186044416
returns-then-s-ltminus17592186044416 c = gone_before c.args.s c.ranges.s c.if-s-ltminus17592186044416.true

pub overflow_add-result-2 : goal.overflow_add-result-2
overflow_add-result-2 c = (read_between c.args.s c.ranges.s c.if-s-ge0.false c.if-s-ltminus17592186044416.false).fits

pub overflow_cast-result-2 : goal.overflow_cast-result-2
overflow_cast-result-2 c =
    let r = read_between c.args.s c.ranges.s c.if-s-ge0.false c.if-s-ltminus17592186044416.false in
    subst (λ (z : ℤ). T (non_neg z) × Fits w64 (nat_abs z)) (sym r.is) (tt, record { fits = omega (arith, r.small) })

pub returns : goal.returns
returns c = ap nat_abs (read_between c.args.s c.ranges.s c.if-s-ge0.false c.if-s-ltminus17592186044416.false).is
