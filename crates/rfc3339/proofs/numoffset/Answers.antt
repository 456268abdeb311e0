-- `rfc3339::numoffset` meets its contract. Assumes nothing.
use mathlib.Core.Path.{◌≡◌, sym, ap, ◌∙◌}
use Prim.Native.Nat.{◌+◌}
use native.Mathlib.Omega.{arith}
use lib.ListN.{drop}
use Rattle.laws.proofs.Lists.{rest}
use Rattle.rfc3339.specs.Rfc3339 as Rfc
use Rattle.rfc3339.proofs.Stamps.{in_day}
use Rattle.rfc3339.proofs.numoffset.Goals.{After-valid_time}
use Rattle.rfc3339.proofs.numoffset.Goals as goal

-- what `matches` and `valid_time` said of the offset
said : (c : After-valid_time) → Rfc.matches Rfc.hour_minute (drop (c.args.z + 1) c.args.l.now) ≡ c.matches.result
said c = sym (c.matches.ensures ∙ ap (Rfc.matches Rfc.hour_minute) (rest c.args.l.now (c.args.z + 1)))

hours : (c : After-valid_time) → Rfc.valid_time (Rfc.two_digits c.args.l.now (c.args.z + 1)) (Rfc.two_digits c.args.l.now (c.args.z + 4)) 0 ≡ c.valid_time.result
hours c = sym (c.valid_time.ensures ∙ (λ j. Rfc.valid_time (c.two_digits-h.ensures.is j) (c.two_digits-m.ensures.is j) 0))

pub overflow_sub-seconds : goal.overflow_sub-seconds
overflow_sub-seconds c = let d = in_day _ _ _ (sym c.valid_time.ensures ∙ c.if-not-valid_time.false) in omega (arith, d.hour, d.minute, c.requires.0.low)

pub returns-in-43 : goal.returns-in-43
unfolding Rfc.numoffset
returns-in-43 c = let x = (goal.at.returns-in-43 c).After-valid_time in simp (said x ∙ c.if-not-matches.false, hours x ∙ c.if-not-valid_time.false, sym c.byte.ensures ∙ c.in-43.is, c.two_digits-h.ensures.is, c.two_digits-m.ensures.is)

pub returns-in-45 : goal.returns-in-45
unfolding Rfc.numoffset
returns-in-45 c = let x = (goal.at.returns-in-45 c).After-valid_time in simp (said x ∙ c.if-not-matches.false, hours x ∙ c.if-not-valid_time.false, sym c.byte.ensures ∙ c.in-45.is, c.two_digits-h.ensures.is, c.two_digits-m.ensures.is)
