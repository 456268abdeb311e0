-- `word::wrapping_mul` meets its contract. Assumes nothing.
use Rattle.std.proofs.Common.{arith}
use Rattle.float.proofs.Halves.{half_fits, product}
use Rattle.float.proofs.word.wrapping_mul.Goals as goal

pub overflow_mul-cross : goal.overflow_mul-cross
overflow_mul-cross c = record { fits = half_fits _ _ (omega arith) (omega arith) }

pub overflow_mul-cross-2 : goal.overflow_mul-cross-2
overflow_mul-cross-2 c = record { fits = half_fits _ _ (omega arith) (omega arith) }

pub overflow_mul-al : goal.overflow_mul-al
overflow_mul-al c = record { fits = half_fits _ _ (omega arith) (omega arith) }

pub returns : goal.returns
returns c = rw c.wrapping_add_u64.ensures.value (product c.args.a c.args.b)
