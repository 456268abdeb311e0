-- `stored::arrays::store` meets its contract. Assumes nothing.
use Rattle.stored.proofs.Chunks.{Writing}
use Rattle.stored.proofs.arrays.store.Given as goal

abbrev pub invariant-loop-k : goal.invariant-loop-k
invariant-loop-k g l = Writing g.row.W g.T.LittleEndian.number l.numbers l.out l.k
