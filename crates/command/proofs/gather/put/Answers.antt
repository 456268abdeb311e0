-- `put` meets its contract. Assumes nothing.
use Rattle.std.proofs.Common.{List, ℕ, ◌++◌, drop, ap, rules}
use Rattle.command.proofs.Lists.{put_first}
use Rattle.command.proofs.gather.put.Goals as goal

pub returns : goal.returns
returns c =
    let a = c.args in
    put_first a.from.now a.out.now _ _ (search rules) (ap (λ (v : List ℕ). v ++ drop c.min-n.result a.out.now) c.copy_from_slice.ensures.after)
