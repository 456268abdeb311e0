use Rattle.std.proofs.Common.{ℕ, ap, ◌∙◌, ◌%◌, take}
use Rattle.std.proofs.lemmas.List.{take_min}
use Rattle.std.proofs.Math.Nat.{min_comm}
use Rattle.tle.specs.Lines.{weight_sum, checksum_of}
use Rattle.tle.proofs.tle_checksum.Goals as goal

pub returns : goal.returns
unfolding checksum_of
returns c =
    let line = c.args.line.now in
    ap (λ (n : ℕ). n % 10) (c.sum_of.ensures ∙ ap weight_sum (ap (λ (n : ℕ). take n line) (c.min.ensures ∙ min_comm _ _) ∙ take_min 68 line))
