-- `passes::file::read_pass_file` meets its contract. Assumes nothing.
use mathlib.Core.Path.{ap, ◌∙◌}
use Rattle.std.proofs.Common.{rules, List, ◌++◌, ℤ, drop}
use native.Mathlib.Omega.{arith}
use lib.Ieee.{Float}
use Rattle.passes.proofs.Files.{copied, to_front}
use Rattle.passes.proofs.Answers.{refuse_line, refuse_count, refuse_times, refuse_freqs, accept}
use Rattle.passes.proofs.file.read_pass_file.Goals.{then-times-n-via-then-times-n, then-times-n-via-else-times-n+then-freqs-n}
use Rattle.passes.proofs.file.read_pass_file.Goals as goal

pub returns-in_err-s : goal.returns-in_err-s
returns-in_err-s c = refuse_line _ c.scan.ensures.says _ _ c.in_err-s.was (search rules)

pub returns-then-n-gt4096 : goal.returns-then-n-gt4096
returns-then-n-gt4096 c = refuse_count _ c.scan.ensures.says _ _ c.in_ok-s.was c.if-n-gt4096.true

pub returns-then-times-n : goal.returns-then-times-n
returns-then-times-n c =
    elim c.then-times-n.branch [
      | then-times-n-via-then-times-n w ↦ refuse_times _ c.scan.ensures.says _ _ c.in_ok-s.was c.if-n-gt4096.false w.if-times-n.true
      | then-times-n-via-else-times-n+then-freqs-n w ↦ refuse_freqs _ c.scan.ensures.says _ _ c.in_ok-s.was c.if-n-gt4096.false w.if-times-n.false w.if-freqs-n.true
    ]

pub returns : goal.returns
returns c =
    let s = c.scan in
    accept _ s.ensures.says _ _ c.in_ok-s.was (copied _ s.ensures c.in_ok-s.was c.if-n-gt4096.false c.if-n-gt4096.false
    (ap (λ (v : List ℤ). v ++ drop c.in_ok-s.s.count c.args.times.now) c.copy_from_slice.ensures.after ∙ to_front _ _ _ c.if-times-n.false (omega (arith, s.auto.times, c.if-n-gt4096.false)))
    (ap (λ (v : List Float). v ++ drop c.in_ok-s.s.count c.args.freqs.now) c.copy_from_slice-2.ensures.after ∙ to_front _ _ _ c.if-freqs-n.false (omega (arith, s.auto.freqs, c.if-n-gt4096.false))))
    c.if-n-gt4096.false c.if-times-n.false c.if-freqs-n.false
