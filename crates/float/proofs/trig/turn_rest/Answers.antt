use Rattle.std.proofs.Common.{T, sym, subst, rules}
use Rattle.float.specs.Trig.{full, full_bits}
use Rattle.float.proofs.Rest.{wide_bits}
use Rattle.float.proofs.Own.{small_rem}
use Rattle.float.proofs.trig.turn_rest.Goals as goal

pub whole_rest-requires : goal.whole_rest-requires
whole_rest-requires c = rw (← full_bits, ← wide_bits) (search rules)

pub returns-then-v-2 : goal.returns-then-v-2
returns-then-v-2 c = sym (small_rem c.args.v full (subst T (sym c.well_formed.0.1) tt) (rw full_bits at c.if-v.true) (rw full_bits at c.if-v-2.true))

pub returns-else-v-3 : goal.returns-else-v-3
returns-else-v-3 c = rw full_bits at c.remainder.ensures
