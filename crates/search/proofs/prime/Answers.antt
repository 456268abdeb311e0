-- `prime` meets its contract. Assumes nothing.
use Rattle.std.proofs.Common.{rules}
use Rattle.search.specs.Step.{prime_of}
use Rattle.search.proofs.Draws.{prime_last}
use Rattle.search.proofs.prime.Goals.{in-0, in-1, in-2, in_default}
use Rattle.search.proofs.prime.Goals as goal

pub returns : goal.returns
unfolding prime_of
returns c =
    elim c.match-k-rem4.branch [
      | in-0 w ↦ simp (w.result-is, w.in-0.is)
      | in-1 w ↦ simp (w.result-is, w.in-1.is)
      | in-2 w ↦ simp (w.result-is, w.in-2.is)
      | in_default w ↦ rw w.result-is (prime_last _ (search rules) (search rules) (search rules))
    ]
