use Rattle.std.proofs.Common.{ℕ, ◌%◌, ◌^◌, T, pos, sym, ap, ◌∙◌, subst, lt_trans, le_of_lt, mod-lt, lit<, le→leb}
use lib.Ieee.{binary64, in_float, of_int}
use Rattle.float.specs.Ops.{◌⊗◌, bits}
use Rattle.float.proofs.Rest.{rest_law, in_range}
use Rattle.float.proofs.trig.whole_rest.Goals as goal

pub truncating_f64_to_u64-n-requires : goal.truncating_f64_to_u64-n-requires
truncating_f64_to_u64-n-requires c = let p = in_range c.args.v (subst T (sym c.well_formed.0.1) tt) c.requires in record { lower_bound = p.0; upper_bound = p.1 }

pub int_to_float-result : goal.int_to_float-result
unfolding in_float
int_to_float-result c = le→leb _ (2 ^ 53) (le_of_lt (lt_trans (mod-lt c.truncating_f64_to_u64-n.result (lit< tt)) (lit< tt)))

pub returns : goal.returns
returns c =
    ap (λ (n : ℕ). of_int binary64 (pos (n % 7074237752028440)) ⊗ bits 0x3cd0000000000000) c.truncating_f64_to_u64-n.ensures
    ∙ rest_law c.args.v (subst T (sym c.well_formed.0.1) tt) c.requires
