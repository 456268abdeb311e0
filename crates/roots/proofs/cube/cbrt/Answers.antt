-- `roots::cube::cbrt` meets its contract: each way out is a lemma of `proofs/Decode.antt`, by the tests on that way. Assumes nothing.
use mathlib.Core.Path.{sym, ◌∙◌, subst}
use lib.Dec.{T}
use lib.Ieee.{binary64, fits, of_bits, div, neg}
use Rattle.roots.proofs.Bits.{no_nan, lt_no_nan}
use Rattle.roots.proofs.Decode.{cbrt_zero, cbrt_bottom, cbrt_rest, of_inf, bits_pos, cbrt_inf, cbrt_parts}
use Rattle.roots.proofs.cube.cbrt.Goals.{Start}
use Rattle.roots.proofs.cube.cbrt.Goals as goal

-- what owning an `f64` tells: the format holds it
held : (c : Start) → T (fits binary64 c.args.x)
held c = subst T (sym c.well_formed.0.1) tt

pub float_to_bits-b : goal.float_to_bits-b
float_to_bits-b c = lt_no_nan _ _ c.if-x.true

pub returns-then-b-ge-INFINITY : goal.returns-then-b-ge-INFINITY
unfolding of_bits
returns-then-b-ge-INFINITY c = cbrt_inf c.args.x (of_inf c.args.x (held (goal.at.returns-then-b-ge-INFINITY c).Start) c.if-x.true c.if-b-ge-INFINITY.true)

pub split-p-requires : goal.split-p-requires
unfolding of_bits
split-p-requires c = (bits_pos c.args.x (held (goal.at.split-p-requires c).Start) c.if-x.true, c.if-b-ge-INFINITY.false)

pub float_from_bits-result : goal.float_from_bits-result
float_from_bits-result c = no_nan c.cube_root_bits.result c.cube_root_bits.ensures.1

pub returns-then-x : goal.returns-then-x
unfolding of_bits
returns-then-x c =
    c.cube_root_bits.ensures.0 ∙ cbrt_parts c.args.x (held (goal.at.returns-then-x c).Start) c.if-x.true c.if-b-ge-INFINITY.false _ _ c.split-p.ensures

pub returns-then-x-2 : goal.returns-then-x-2
unfolding of_bits
returns-then-x-2 c = cbrt_zero c.args.x c.if-x-2.true

pub returns-then-x-3 : goal.returns-then-x-3
unfolding of_bits div neg
returns-then-x-3 c = cbrt_bottom c.args.x c.if-x-3.true

pub returns-else-x-3 : goal.returns-else-x-3
unfolding of_bits div neg
returns-else-x-3 c = cbrt_rest c.args.x c.if-x.false c.if-x-2.false c.if-x-3.false
