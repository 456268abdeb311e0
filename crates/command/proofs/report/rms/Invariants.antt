-- `rms` meets its contract. Assumes nothing.
use Rattle.std.proofs.Common.{◌*◌, ◌≤◌, length}
use Rattle.loops.specs.Loop.{for}
use Rattle.loops.proofs.Laws.{Left}
use Rattle.command.specs.Report.{with_pass, open_walk}
use Rattle.command.proofs.report.rms.Given as goal

abbrev pub invariant-loop-n : goal.invariant-loop-n
invariant-loop-n l =
    (l.n-index ≤ length l.counts) × (length l.counts ≤ 16) × (l.w.at ≤ l.n-index * 4294967295) × (l.w.passes ≤ l.n-index)
    × Left l.n-index (length l.counts) (with_pass l.times l.freqs l.g l.counts l.dts l.dfs l.df1s l.df2s) l.w (for 0 (length l.counts) (with_pass l.times l.freqs l.g l.counts l.dts l.dfs l.df1s l.df2s) open_walk)
