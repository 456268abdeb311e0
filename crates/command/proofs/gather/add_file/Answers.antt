-- `add_file` meets its contract. Assumes nothing.
use Rattle.std.proofs.Common.{arith}
use Rattle.command.proofs.Gathers.{no_counts, no_centers, no_times, no_freqs, refused_file, few_samples, accepted_file}
use Rattle.command.proofs.gather.add_file.Goals.{then-counts-p-via-then-counts-p, then-counts-p-via-else-counts-p+then-centers-p, then-counts-p-via-else-counts-p+else-centers-p+then-times-s, then-counts-p-via-else-counts-p+else-centers-p+else-times-s+then-freqs-s}
use Rattle.command.proofs.gather.add_file.Goals as goal

pub returns-then-counts-p : goal.returns-then-counts-p
returns-then-counts-p c =
    elim c.then-counts-p.branch [
      | then-counts-p-via-then-counts-p w ↦ no_counts _ _ _ _ _ _ _ w.if-counts-p.true
      | then-counts-p-via-else-counts-p+then-centers-p w ↦ no_centers _ _ _ _ _ _ _ w.if-counts-p.false w.if-centers-p.true
      | then-counts-p-via-else-counts-p+else-centers-p+then-times-s w ↦ no_times _ _ _ _ _ _ _ w.if-counts-p.false w.if-centers-p.false w.if-times-s.true
      | then-counts-p-via-else-counts-p+else-centers-p+else-times-s+then-freqs-s w ↦ no_freqs _ _ _ _ _ _ _ w.if-counts-p.false w.if-centers-p.false w.if-times-s.false w.if-freqs-s.true
    ]

pub overflow_cast-counts : goal.overflow_cast-counts
overflow_cast-counts c =
    let a = c.args in
    record { fits = omega (arith, few_samples a.file.now a.s a.times.now a.freqs.now c.read_pass_file.ensures c.in-Ok.is) }

pub returns-in-Ok : goal.returns-in-Ok
returns-in-Ok c =
    accepted_file _ _ _ _ _ _ _ c.if-counts-p.false c.if-centers-p.false c.if-times-s.false c.if-freqs-s.false c.read_pass_file.ensures c.in-Ok.is

pub returns-in-Err : goal.returns-in-Err
returns-in-Err c =
    refused_file _ _ _ _ _ _ _ c.if-counts-p.false c.if-centers-p.false c.if-times-s.false c.if-freqs-s.false c.read_pass_file.ensures c.in-Err.is c.roomless.ensures
