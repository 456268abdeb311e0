-- `squares` meets its contract. Assumes nothing.
use Rattle.std.proofs.Common.{◌-◌}
use Rattle.loops.proofs.Laws.{Left}
use Rattle.command.specs.Report.{square_of, squares_of}
use Rattle.command.proofs.report.squares.Given as goal

abbrev pub invariant-loop-k : goal.invariant-loop-k
invariant-loop-k l = Left l.k l.end (square_of l.times l.freqs l.g l.b) l.s (squares_of l.times l.freqs l.g l.b l.at l.end l.sum)

abbrev pub decreases-loop-k : goal.decreases-loop-k
decreases-loop-k l = l.end - l.k
