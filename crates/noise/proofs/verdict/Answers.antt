use lib.Ieee.{of_bits, div}
use Rattle.noise.proofs.Findings.{two, no_residual, no_noise, at_noise, doubtful}
use Rattle.noise.proofs.verdict.Goals.{then-rms-via-then-rms, then-rms-via-else-rms+then-not-estimate}
use Rattle.noise.proofs.verdict.Goals as goal

pub returns-then-passes-lt3 : goal.returns-then-passes-lt3
returns-then-passes-lt3 c = two _ _ _ c.if-passes-lt3.true

pub returns-then-rms : goal.returns-then-rms
unfolding of_bits div
returns-then-rms c =
    elim c.then-rms.branch [
      | then-rms-via-then-rms w ↦ no_residual _ _ _ c.if-passes-lt3.false w.if-rms.true
      | then-rms-via-else-rms+then-not-estimate w ↦ no_noise _ _ _ c.if-passes-lt3.false w.if-rms.false w.if-not-estimate.true
    ]

pub returns-then-rms-bound : goal.returns-then-rms-bound
unfolding of_bits div
returns-then-rms-bound c =
    at_noise _ _ _ c.if-passes-lt3.false c.if-rms.false (c.if-not-estimate.false) c.bound.ensures c.if-rms-bound.true

pub returns : goal.returns
unfolding of_bits div
returns c =
    doubtful _ _ _ c.if-passes-lt3.false c.if-rms.false (c.if-not-estimate.false) c.bound.ensures c.if-rms-bound.false
