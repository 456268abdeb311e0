use mathlib.Core.Path.{refl}
use native.Mathlib.Omega.{arith}
use lib.ListN.{take}
use Rattle.tle.proofs.Columns.{put, line1_made, checksum_lt}
use Rattle.tle.proofs.lines.line_1.Goals as goal

pub overflow_cast-line : goal.overflow_cast-line
overflow_cast-line c = record { fits = omega (arith, c.tle_checksum.ensures, checksum_lt (take 68 c.put_fixed.new.out)) }

pub overflow_add-line : goal.overflow_add-line
overflow_add-line c = record { fits = omega (arith, c.tle_checksum.ensures, checksum_lt (take 68 c.put_fixed.new.out)) }

pub returns : goal.returns
returns c =
    line1_made c.args.year c.args.day _ _ c.tle_checksum.result c.put_fixed.new.out c.digit.ensures c.digit-2.ensures
    (put c.args.day 8 48 20 12 c.put_fixed.result _ _ refl c.put_fixed.ensures.value c.requires c.put_fixed.ensures.out_after) c.tle_checksum.ensures
