use Rattle.std.proofs.Common.{T, sym, ap, ◌∙◌, subst}
use Rattle.std.specs.Float.Ieee.{neg}
use Rattle.float.proofs.Own.{small_rem}
use Rattle.float.proofs.Doubling.{across, neg_of}
use Rattle.float.proofs.remainder.of_sign.Goals as goal

pub returns-then-d-v : goal.returns-then-d-v
returns-then-d-v c = sym (small_rem c.args.v c.args.d (subst T (sym c.well_formed.0.1) tt) c.if-v-d.true c.if-d-v.true)

pub by_steps-requires : goal.by_steps-requires
by_steps-requires c = (c.requires, across c.args.v c.args.d c.if-d-v.false)

pub returns-then-v-d : goal.returns-then-v-d
returns-then-v-d c = ap neg c.by_steps.ensures ∙ neg_of c.args.v c.args.d
