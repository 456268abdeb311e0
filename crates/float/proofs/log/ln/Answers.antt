use Rattle.std.proofs.Common.{T, sym, ◌∙◌, subst}
use lib.Ieee.{of_bits}
use Rattle.float.proofs.Logs.{ln_nan, ln_below, ln_zero, ln_infinity, is_number, ln_normal, ln_subnormal}
use Rattle.float.proofs.log.ln.Goals as goal

pub returns-then-is_nan : goal.returns-then-is_nan
returns-then-is_nan c = ln_nan _ (sym c.is_nan.ensures.value ∙ c.if-is_nan.true)

pub returns-then-v : goal.returns-then-v
unfolding of_bits
returns-then-v c = ln_below _ c.if-v.true

pub returns-then-v-2 : goal.returns-then-v-2
unfolding of_bits
returns-then-v-2 c = ln_zero _ c.if-v-2.true

pub returns-then-v-3 : goal.returns-then-v-3
returns-then-v-3 c = ln_infinity _ c.if-v-3.true

pub float_to_bits-v : goal.float_to_bits-v
float_to_bits-v c = (ln_subnormal _ (subst T (sym c.well_formed.0.1) tt) (record { number = sym c.is_nan.ensures.value ∙ c.if-is_nan.false; positive = c.if-v.false; nonzero = c.if-v-2.false; finite = c.if-v-3.false }) c.if-v-4.true).1

pub returns-then-v-4 : goal.returns-then-v-4
returns-then-v-4 c = c.log_of_bits.ensures ∙ (ln_subnormal _ (subst T (sym c.well_formed.0.1) tt) (record { number = sym c.is_nan.ensures.value ∙ c.if-is_nan.false; positive = c.if-v.false; nonzero = c.if-v-2.false; finite = c.if-v-3.false }) c.if-v-4.true).0

pub float_to_bits-v-2 : goal.float_to_bits-v-2
float_to_bits-v-2 c = is_number _ (record { number = sym c.is_nan.ensures.value ∙ c.if-is_nan.false; positive = c.if-v.false; nonzero = c.if-v-2.false; finite = c.if-v-3.false })

pub returns : goal.returns
returns c = c.log_of_bits-2.ensures ∙ ln_normal _ (subst T (sym c.well_formed.0.1) tt) (record { number = sym c.is_nan.ensures.value ∙ c.if-is_nan.false; positive = c.if-v.false; nonzero = c.if-v-2.false; finite = c.if-v-3.false }) c.if-v-4.false
