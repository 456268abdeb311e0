use mathlib.Core.Path.{sym, ◌∙◌}
use Rattle.element_lines.specs.Reading.{elements_refusal, read_element_lines_of}
use Rattle.element_lines.proofs.Matching.{length_1, length_2}
use Rattle.element_lines.proofs.read_element_lines.Goals.{then-not-is_line_1-via-then-not-is_line_1, then-not-is_line_1-via-else-not-is_line_1+then-not-is_line_2, then-not-is_summed-via-then-not-is_summed, then-not-is_summed-via-else-not-is_summed+then-not-is_summed-2}
use Rattle.element_lines.proofs.read_element_lines.Goals as goal

pub returns-then-not-is_line_1 : goal.returns-then-not-is_line_1
unfolding read_element_lines_of elements_refusal
returns-then-not-is_line_1 c = elim c.then-not-is_line_1.branch [
  | then-not-is_line_1-via-then-not-is_line_1 w ↦ simp (sym c.is_line_1.ensures ∙ w.if-not-is_line_1.true)
  | then-not-is_line_1-via-else-not-is_line_1+then-not-is_line_2 w ↦ simp (sym c.is_line_1.ensures ∙ w.if-not-is_line_1.false, sym w.is_line_2.ensures ∙ w.if-not-is_line_2.true)
]

pub is_summed-requires : goal.is_summed-requires
is_summed-requires c = length_1 _ (sym c.is_line_1.ensures ∙ c.if-not-is_line_1.false)

pub is_summed-requires-else-not-is_summed : goal.is_summed-requires-else-not-is_summed
is_summed-requires-else-not-is_summed c = length_2 _ (sym c.is_line_2.ensures ∙ c.if-not-is_line_2.false)

pub returns-then-not-is_summed : goal.returns-then-not-is_summed
unfolding read_element_lines_of elements_refusal
returns-then-not-is_summed c =
    let p = sym c.is_line_1.ensures ∙ c.if-not-is_line_1.false in
    let q = sym c.is_line_2.ensures ∙ c.if-not-is_line_2.false in
    elim c.then-not-is_summed.branch [
      | then-not-is_summed-via-then-not-is_summed w ↦ simp (p, q, sym c.is_summed.ensures ∙ w.if-not-is_summed.true)
      | then-not-is_summed-via-else-not-is_summed+then-not-is_summed-2 w ↦ simp (p, q, sym c.is_summed.ensures ∙ w.if-not-is_summed.false, sym w.is_summed-else-not-is_summed.ensures ∙ w.if-not-is_summed-2.true)
    ]

pub is_circular-requires : goal.is_circular-requires
is_circular-requires c = length_2 _ (sym c.is_line_2.ensures ∙ c.if-not-is_line_2.false)

pub returns-then-not-is_circular : goal.returns-then-not-is_circular
unfolding read_element_lines_of elements_refusal
returns-then-not-is_circular c =
    simp (sym c.is_line_1.ensures ∙ c.if-not-is_line_1.false, sym c.is_line_2.ensures ∙ c.if-not-is_line_2.false, sym c.is_summed.ensures ∙ c.if-not-is_summed.false, sym c.is_summed-else-not-is_summed.ensures ∙ c.if-not-is_summed-2.false, sym c.is_circular.ensures ∙ c.if-not-is_circular.true)

pub elements_in-requires : goal.elements_in-requires
elements_in-requires c =
    (length_1 _ (sym c.is_line_1.ensures ∙ c.if-not-is_line_1.false), length_2 _ (sym c.is_line_2.ensures ∙ c.if-not-is_line_2.false))

pub returns : goal.returns
unfolding read_element_lines_of elements_refusal
returns c =
    simp (c.elements_in.ensures, sym c.is_line_1.ensures ∙ c.if-not-is_line_1.false, sym c.is_line_2.ensures ∙ c.if-not-is_line_2.false, sym c.is_summed.ensures ∙ c.if-not-is_summed.false, sym c.is_summed-else-not-is_summed.ensures ∙ c.if-not-is_summed-2.false, sym c.is_circular.ensures ∙ c.if-not-is_circular.false)
