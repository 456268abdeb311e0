use Rattle.std.proofs.Common.{sym, refl, ◌∙◌, lit≤}
use Rattle.moment.proofs.Over.{sound}
use Rattle.orbit.proofs.Predicts.{adjusted, first_over, second_over, accepted}
use Rattle.orbit.proofs.doppler.predict.Goals as goal

pub returns-then-over : goal.returns-then-over
returns-then-over c =
    first_over _ _ _ _ _ _ _ _ (adjusted _ _ _ c.moved-t_adj.ensures.counts) c.over.ensures c.if-over.true

pub tau-requires : goal.tau-requires
tau-requires c = (sound _ _ c.moved-t_adj.ensures.part (sym c.over.ensures ∙ c.if-over.false), c.requires.0)

pub moved-t_corr-requires : goal.moved-t_corr-requires
moved-t_corr-requires c = (sound _ _ c.moved-t_adj.ensures.part (sym c.over.ensures ∙ c.if-over.false), lit≤ tt, refl)

pub returns-then-over-2 : goal.returns-then-over-2
returns-then-over-2 c =
    second_over _ _ _ _ _ _ _ _ _ _ _ _ _ (adjusted _ _ _ c.moved-t_adj.ensures.counts) c.over.ensures c.if-over.false
    c.tau.ensures c.propagate-first.ensures c.drift.ensures c.moved-t_corr.ensures.counts c.over-2.ensures c.if-over-2.true

pub tau-requires-2 : goal.tau-requires-2
tau-requires-2 c = (sound _ _ c.moved-t_corr.ensures.part (sym c.over-2.ensures ∙ c.if-over-2.false), c.requires.0)

pub returns : goal.returns
returns c =
    accepted _ _ _ _ _ _ _ _ _ _ _ _ _ _ _ _ (adjusted _ _ _ c.moved-t_adj.ensures.counts) c.over.ensures c.if-over.false
    c.tau.ensures c.propagate-first.ensures c.drift.ensures c.moved-t_corr.ensures.counts c.over-2.ensures c.if-over-2.false
    c.tau-2.ensures c.propagate-s.ensures c.received.ensures
