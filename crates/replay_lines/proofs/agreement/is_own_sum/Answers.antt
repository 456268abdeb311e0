use native.Mathlib.Omega.{arith}
use lib.ListN.{take}
use Rattle.tle.proofs.Columns.{checksum_lt}
use Rattle.replay_lines.specs.Agreement.{own_sum}
use Rattle.replay_lines.proofs.agreement.is_own_sum.Goals as goal

pub overflow_cast-result : goal.overflow_cast-result
overflow_cast-result c = record { fits = omega (arith, c.tle_checksum.ensures, checksum_lt (take 68 c.args.line.now)) }

pub overflow_add-result : goal.overflow_add-result
overflow_add-result c = record { fits = omega (arith, c.tle_checksum.ensures, checksum_lt (take 68 c.args.line.now)) }

pub returns : goal.returns
unfolding own_sum
returns c = simp c.tle_checksum.ensures
