use Rattle.moment.specs.Time.{million_bits}
use Rattle.report_text.specs.Number.{millionths_of}
use Rattle.report_text.proofs.number.millionths.Goals as goal

pub returns : goal.returns
unfolding millionths_of
returns c =
    simp (c.saturating_f64_to_u64.ensures, c.round.ensures, c.abs.ensures, million_bits)
