use mathlib.Core.Path.{sym}
use borrow.Author.Tests.{ltb-false}
use lib.ListN.{get_or-eq_default}
use lib.Ieee.{nan, of_bits, div}
use Rattle.noise.proofs.number_at.Goals as goal

pub returns-in-None : goal.returns-in-None
unfolding of_bits div
returns-in-None c = sym (get_or-eq_default c.args.l.now nan (ltb-false _ _ (sym c.in-None.ensures.lookup.0)))
