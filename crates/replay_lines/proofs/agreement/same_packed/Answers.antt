use mathlib.Core.Path.{◌∙◌}
use native.Mathlib.Omega.{arith}
use Rattle.replay_lines.proofs.Packed.{unpacked}
use Rattle.replay_lines.proofs.agreement.same_packed.Goals as goal

pub returns : goal.returns
returns c =
    c.same_text.ensures ∙ simp (c.first-stored.ensures, unpacked c.args.fields.now c.fill.new.out c.args.n (omega arith) c.fill.ensures, c.first.ensures)
