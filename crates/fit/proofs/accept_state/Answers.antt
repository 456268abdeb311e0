-- `accept_state` meets its contract. Assumes nothing.
use mathlib.Core.Path.{sym, ◌∙◌}
use Rattle.book.specs.Demand.{largest_sum_bits}
use Rattle.fit.proofs.Steps.{not_far}
use Rattle.fit.proofs.accept_state.Goals as goal

pub returns-then-s : goal.returns-then-s
returns-then-s c = simp (not_far c.args.s.ended (sym c.in_default.is ∙ c.far_refusal.ensures), ← largest_sum_bits, c.if-s.true)

pub returns-then-any_large : goal.returns-then-any_large
returns-then-any_large c =
    simp (not_far c.args.s.ended (sym c.in_default.is ∙ c.far_refusal.ensures), ← largest_sum_bits, c.if-s.false, ← c.any_large.ensures, c.if-any_large.true)

pub returns : goal.returns
returns c =
    simp (not_far c.args.s.ended (sym c.in_default.is ∙ c.far_refusal.ensures), ← largest_sum_bits, c.if-s.false, ← c.any_large.ensures, c.if-any_large.false)
