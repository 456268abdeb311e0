-- `epoch_of` meets its contract. Assumes nothing.
use mathlib.Core.Path.{refl, ◌∙◌}
use Rattle.moment.specs.Sample.{time_in_range}
use Rattle.probes.proofs.Calls.{no_epoch}
use Rattle.probes.proofs.epoch_of.Goals as goal

pub of_nanos-requires : goal.of_nanos-requires
unfolding time_in_range
of_nanos-requires c = refl

pub returns-then-times-eq0 : goal.returns-then-times-eq0
returns-then-times-eq0 c = (c.of_nanos.ensures.0 ∙ no_epoch c.args.times.now c.if-times-eq0.true, c.of_nanos.ensures.1)
