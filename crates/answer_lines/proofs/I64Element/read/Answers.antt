-- `answer_lines::Element::read` of `i64` meets its contract. Assumes nothing.
use Rattle.std.proofs.Common.{ap, to_z}
use Rattle.std.specs.Int.{w64}
use Rattle.answer_lines.specs.Lines.{signed_field}
use Rattle.answer_lines.proofs.I64Element.read.Goals as goal

pub returns : goal.returns
unfolding signed_field
returns c = ap (to_z w64) c.signed.ensures
