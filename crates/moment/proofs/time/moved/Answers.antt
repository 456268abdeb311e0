use Rattle.std.proofs.Common.{ℕ, ◌+◌, ◌-◌, min, ap, ◌∙◌, subst}
use Rattle.moment.specs.Time.{nanos_of, Normal}
use Rattle.moment.proofs.Moved.{moved_below, moved_above}
use Rattle.moment.proofs.time.moved.Goals as goal

pub returns-then-x : goal.returns-then-x
returns-then-x g c =
    let t = nanos_of c.args.t.secs c.args.t.nanos in
    let n = c.min-n.ensures ∙ ap (λ (n : ℕ). min n 9223372036854775808) c.saturating_f64_to_u64.ensures in
    subst (Normal _ _) (ap (λ (d : ℕ). t - d) c.span_of.ensures ∙ moved_below t g.row.UNIT _ _ c.if-x.true n) c.earlier.ensures

pub returns-else-x : goal.returns-else-x
returns-else-x g c =
    let t = nanos_of c.args.t.secs c.args.t.nanos in
    let n = c.min-n-else-x.ensures ∙ ap (λ (n : ℕ). min n 9223372036854775807) c.saturating_f64_to_u64-else-x.ensures in
    subst (Normal _ _) (ap (λ (d : ℕ). t + d) c.span_of-else-x.ensures ∙ moved_above t g.row.UNIT _ _ c.if-x.false n) c.later.ensures
