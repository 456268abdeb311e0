use lib.Ieee.{of_bits}
use Rattle.std.proofs.Common.{◌∙◌}
use Rattle.float.proofs.Doubling.{no_divisor, of_neg, neg_positive}
use Rattle.float.proofs.remainder.remainder.Goals as goal

pub of_sign-requires-then-d-2 : goal.of_sign-requires-then-d-2
of_sign-requires-then-d-2 c = neg_positive c.args.d c.if-d-2.true

pub returns-then-d-2 : goal.returns-then-d-2
returns-then-d-2 c = c.of_sign-then-d-2.ensures ∙ of_neg c.args.v c.args.d

pub returns : goal.returns
unfolding of_bits
returns c = no_divisor _ _ c.if-d.false c.if-d-2.false
