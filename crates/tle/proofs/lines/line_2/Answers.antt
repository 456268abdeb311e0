use mathlib.Core.Path.{refl}
use native.Mathlib.Omega.{arith}
use lib.ListN.{take}
use Rattle.tle.proofs.Columns.{put, line2_made, checksum_lt}
use Rattle.tle.proofs.lines.line_2.Goals as goal

pub overflow_cast-line : goal.overflow_cast-line
overflow_cast-line c = record { fits = omega (arith, c.tle_checksum.ensures, checksum_lt (take 68 c.put_fixed-4.new.out)) }

pub overflow_add-line : goal.overflow_add-line
overflow_add-line c = record { fits = omega (arith, c.tle_checksum.ensures, checksum_lt (take 68 c.put_fixed-4.new.out)) }

pub returns : goal.returns
returns c =
    let x = c.args in
    let p1 = put x.i 4 32 8 8 c.put_fixed.result _ _ refl c.put_fixed.ensures.value c.requires.0 c.put_fixed.ensures.out_after in
    let p2 = put x.raan 4 32 17 8 c.put_fixed-2.result _ _ p1.size c.put_fixed-2.ensures.value c.requires.1 c.put_fixed-2.ensures.out_after in
    let p3 = put x.u 4 32 43 8 c.put_fixed-3.result _ _ p2.size c.put_fixed-3.ensures.value c.requires.2 c.put_fixed-3.ensures.out_after in
    let p4 = put x.n 8 32 52 11 c.put_fixed-4.result _ _ p3.size c.put_fixed-4.ensures.value c.requires.3 c.put_fixed-4.ensures.out_after in
    line2_made x.i x.raan x.u x.n c.tle_checksum.result _ _ _ _ p1 p2 p3 p4 c.tle_checksum.ensures
