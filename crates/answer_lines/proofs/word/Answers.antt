-- `answer_lines::word` meets its contract. Assumes nothing.
use mathlib.Core.Path.{sym, ap}
use Prim.Native.Nat.{ℕ}
use lib.ListN.{take}
use lib.Seq.{length-take-le}
use Rattle.answer_lines.specs.Lines.{line_word}
use Rattle.answer_lines.proofs.word.Goals as goal

pub slice_bounds-result-end : goal.slice_bounds-result-end
slice_bounds-result-end c = sym (length-take-le c.find-end.result c.args.line.now c.find-end.ensures.1)

pub returns : goal.returns
unfolding line_word
returns c = ap (λ (n : ℕ). take n c.args.line.now) c.find-end.ensures.0
