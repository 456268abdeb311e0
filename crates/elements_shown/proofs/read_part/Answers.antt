use Rattle.laws.proofs.Lists.{prefix}
use Rattle.elements_shown.proofs.Showing.{all_read}
use Rattle.elements_shown.proofs.read_part.Goals as goal

pub returns-then-input-lt256 : goal.returns-then-input-lt256
returns-then-input-lt256 c = all_read _ c.if-input-lt256.true

pub slice_bounds-result-end : goal.slice_bounds-result-end
slice_bounds-result-end c = prefix 256 c.args.input.now c.if-input-lt256.false
