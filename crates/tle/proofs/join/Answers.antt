use mathlib.Core.Path.{◌≡◌}
use lib.ListN.{length}
use Rattle.tle.proofs.Texts.{joined}
use Rattle.tle.proofs.join.Goals as goal

pub returns : goal.returns
returns c =
    let a = c.args in
    let s : length a.line1.now ≡ 69 = c.put_line-arg-2-1.given in
    joined a.name.now a.line1.now a.line2.now a.out.now _ _ _ s c.put_line.ensures c.put_line-2.ensures c.put_line-3.ensures
