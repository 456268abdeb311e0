use mathlib.Core.Path.{ap, ◌∙◌}
use mathlib.Core.List.{List}
use Prim.Native.Nat.{ℕ, ◌+◌}
use lib.ListN.{length, set}
use Rattle.tle.proofs.Texts.{line_feed}
use Rattle.tle.proofs.lines.put_line.Goals as goal

pub returns : goal.returns
returns c =
    let a = c.args in
    ap (λ (l : List ℕ). set l (a.at + length a.line.now) 10) c.copy_to.ensures ∙ line_feed a.line.now a.out.now a.at
