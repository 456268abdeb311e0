use mathlib.Core.Path.{refl, sym, subst}
use mathlib.Core.List.{List}
use Prim.Native.Nat.{ℕ, ◌≤◌}
use lib.ListN.{length}
use borrow.Author.Tests.{eq-eqb, ne_eqb, lt-leb, le-leb}
use Rattle.replay_lines.specs.Agreement.{text_agrees}
use Rattle.replay_lines.proofs.Packed.{last_70}
use Rattle.replay_lines.proofs.agreement.same_text.Goals as goal

pub returns-then-stored-written : goal.returns-then-stored-written
unfolding text_agrees
returns-then-stored-written c = simp (ne_eqb _ _ c.if-stored-written.true)

pub returns-then-written-lt70 : goal.returns-then-written-lt70
unfolding text_agrees
returns-then-written-lt70 c = simp (eq-eqb _ _ c.if-stored-written.false, lt-leb _ _ c.if-written-lt70.true)

pub returns-then-not-begins_with : goal.returns-then-not-begins_with
unfolding text_agrees
returns-then-not-begins_with c =
    simp (eq-eqb _ _ c.if-stored-written.false, le-leb _ _ c.if-written-lt70.false, ← c.first.ensures, ← c.begins_with.ensures, c.if-not-begins_with.true)

pub same_line_2-requires : goal.same_line_2-requires
same_line_2-requires c =
    let s = c.args.stored.now in
    let w = c.args.written.now in (
      subst (λ (l : List ℕ). 70 ≤ length l) (sym c.after.ensures) (last_70 s w c.if-stored-written.false c.if-written-lt70.false),
      subst (λ (l : List ℕ). 70 ≤ length l) (sym c.after-2.ensures) (last_70 w w refl c.if-written-lt70.false),
    )

pub returns : goal.returns
unfolding text_agrees
returns c =
    simp (eq-eqb _ _ c.if-stored-written.false, le-leb _ _ c.if-written-lt70.false, ← c.first.ensures, ← c.begins_with.ensures, c.if-not-begins_with.false, ← c.after.ensures, ← c.after-2.ensures, c.same_line_2.ensures)
