-- `inner::inverse_value` meets its contract. Assumes nothing.
use native.Mathlib.Nat.{pow-zero}
use Rattle.std.proofs.Common.{sym, arith}
use Rattle.monna.proofs.Digits.{take_start, digit_bound, factor_bound, take_one, all_taken, power_more}
use Rattle.monna.proofs.inner.inverse_value.Goals as goal

pub loop-init : goal.loop-init
loop-init c = (sym (pow-zero _), omega arith, take_start _ _ c.args.x c.clamp-rest.ensures)

pub overflow_mul-val : goal.overflow_mul-val
overflow_mul-val c = record { fits = omega (arith, digit_bound _ _ c.saturating_f64_to_u64-digit.result _ c.args.p.is_base (omega arith) c.loop.invariant.0) }

pub overflow_add-val : goal.overflow_add-val
overflow_add-val c = record { fits = omega (arith, digit_bound _ _ c.saturating_f64_to_u64-digit.result _ c.args.p.is_base (omega arith) c.loop.invariant.0) }

pub overflow_mul-factor : goal.overflow_mul-factor
overflow_mul-factor c = record { fits = omega (arith, factor_bound _ _ _ c.args.p.is_base (omega arith) c.loop.invariant.0) }

pub loop-preserved : goal.loop-preserved
loop-preserved c = (
  rw c.loop.invariant.0 (power_more _ _),
  omega (arith, digit_bound _ _ c.saturating_f64_to_u64-digit.result _ c.args.p.is_base (omega arith) c.loop.invariant.0),
  take_one _ _ _ _ c.loop-test.true c.nearest_u64_to_f64-q.ensures c.floor.ensures c.saturating_f64_to_u64-digit.ensures c.nearest_u64_to_f64.ensures c.loop.invariant.2,
)

pub returns : goal.returns
returns c = all_taken c.loop-test.false c.loop.invariant.2
