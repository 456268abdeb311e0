-- `stored::arrays::load` meets its contract. Assumes nothing.
use mathlib.Core.List.{map}
use Rattle.stored.specs.Numbers.{little_endian}
use Rattle.stored.proofs.Chunks.{Filled}
use Rattle.stored.proofs.arrays.load.Given as goal

abbrev pub invariant-loop-k : goal.invariant-loop-k
invariant-loop-k g l = Filled (map (λ c. g.T.LittleEndian.of (little_endian g.row.W c)) l.chunks) l.numbers l.k
