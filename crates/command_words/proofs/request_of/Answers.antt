-- `request_of` meets its contract. Assumes nothing.
use mathlib.Core.Path.{ap, ◌∙◌}
use borrow.Author.Tests.{lt-ltb, le-ltb}
use Rattle.command_words.specs.Words.{mast_words, request_of}
use Rattle.command_words.proofs.request_of.Goals as goal

pub returns-then-words-k : goal.returns-then-words-k
unfolding request_of
returns-then-words-k c =
    let k = c.mast_words-k.ensures.0 ∙ ap mast_words c.is_line.ensures in
    simp (lt-ltb _ _ (rw k at c.if-words-k.true))

pub returns-then-k-words : goal.returns-then-k-words
unfolding request_of
returns-then-k-words c =
    let k = c.mast_words-k.ensures.0 ∙ ap mast_words c.is_line.ensures in
    simp (le-ltb _ _ (rw k at c.if-words-k.false), lt-ltb _ _ (rw k at c.if-k-words.true))

pub returns : goal.returns
unfolding request_of
returns c =
    let k = c.mast_words-k.ensures.0 ∙ ap mast_words c.is_line.ensures in
    simp (c.mast_of-mast.ensures, c.layout_of-layout.ensures, k, le-ltb _ _ (rw k at c.if-words-k.false), le-ltb _ _ (rw k at c.if-k-words.false))
