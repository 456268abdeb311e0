-- The walk over a file's lines. Assumes nothing.
use mathlib.Core.Path.{◌≡◌, refl, sym, ap, ◌∙◌}
use mathlib.Core.Bool.{true, false}
use mathlib.Core.List.{List, [], ◌∷◌}
use Prim.Native.Nat.{ℕ, ◌+◌, ◌-◌, ◌≤◌, ◌<◌}
use native.Mathlib.Omega.{arith}
use lib.Dec.{eqb}
use lib.ListN.{length, take, drop, drop_of_length-le}
use borrow.Author.Tests.{eq-eqb, ne_eqb}
use Rattle.std.specs.Prelude.{is_some}
use Rattle.passes.specs.Text.{Placed, trim, lines, Trimmed}
use Rattle.passes.specs.Line.{line_of}
use Rattle.passes.proofs.Files.{LineAt, same_line}
use Rattle.survey.specs.Survey.{class_of, counting, open_tally, surveyed, Small}
use Rattle.survey.specs.declared.Class.{Class}
use Rattle.survey.specs.declared.Class.TheVariants.{Blank, Unread, Used, Refused}
use Rattle.survey.specs.declared.Tally.{Tally}

-- ---- an empty line

pub empty_line : (l : List ℕ) {s e : ℕ} → Trimmed l s e → s ≡ e → eqb (length (trim l)) 0 ≡ true
empty_line l t h = eq-eqb (length (trim l)) 0 (omega (arith, t.begins, t.ends))

pub some_line : (l : List ℕ) {s e : ℕ} → Trimmed l s e → (s ≡ e → ⊥) → eqb (length (trim l)) 0 ≡ false
some_line l {s} {e} t h = ne_eqb (length (trim l)) 0 (λ (z : length (trim l) ≡ 0). h (omega (arith, t.begins, t.ends, z)))

-- ---- line after line

pub record Walking (file : List ℕ) (at : ℕ) (s : Tally) : Type 0 where
  pub inside : at ≤ length file
  pub few : s.lines ≤ at
  pub few_used : s.used ≤ at
  pub few_skipped : s.skipped ≤ at
  pub good : is_some s.refused ≡ false
  pub left : surveyed s (lines at (drop at file)) ≡ surveyed open_tally (lines 0 file)

pub walk_begins : (file : List ℕ) → Walking file 0 open_tally
walk_begins file = record { inside = omega arith; few = omega arith; few_used = omega arith; few_skipped = omega arith; good = refl; left = refl }

-- each count grows by one at most
record Grows (s r : Tally) : Type 0 where
  few : r.lines ≤ s.lines + 1
  few_used : r.used ≤ s.used + 1
  few_skipped : r.skipped ≤ s.skipped + 1

grows : (s : Tally) (class : Class) → Grows s (counting s class)
unfolding counting
grows s Blank = record { few = omega arith; few_used = omega arith; few_skipped = omega arith }
grows s Unread = record { few = omega arith; few_used = omega arith; few_skipped = omega arith }
grows s Used = record { few = omega arith; few_used = omega arith; few_skipped = omega arith }
grows s Refused = record { few = omega arith; few_used = omega arith; few_skipped = omega arith }

module _ {file : List ℕ} {at n next : ℕ} {s r : Tally} {class : Class} (w : Walking file at s) (l : LineAt file at n next)
    (k : class ≡ class_of (line_of (take (at + n - at) (drop at file))) (eqb (length (trim (take (at + n - at) (drop at file)))) 0)) (e : r ≡ counting s class) where
  here : r ≡ counting s (class_of (line_of (take n (drop at file))) (eqb (length (trim (take n (drop at file)))) 0))
  here = e ∙ ap (counting s) (k ∙ ap (λ (b : List ℕ). class_of (line_of b) (eqb (length (trim b)) 0)) (same_line file at n))

  then : surveyed r (lines (at + next) (drop (at + next) file)) ≡ surveyed open_tally (lines 0 file)
  unfolding surveyed
  then = ap (λ (q : Tally). surveyed q (lines (at + next) (drop (at + next) file))) here ∙ sym (rw (l.is, w.good)) ∙ w.left

  pub walk_more : is_some r.refused ≡ false → Walking file (at + next) r
  walk_more z =
      let g = grows s class in
      record {
        inside = l.inside;
        few = rw e (omega (arith, g.few, w.few, l.more));
        few_used = rw e (omega (arith, g.few_used, w.few_used, l.more));
        few_skipped = rw e (omega (arith, g.few_skipped, w.few_skipped, l.more));
        good = z;
        left = then;
      }

  stops : (q : Tally) (ls : List Placed) → is_some q.refused ≡ true → surveyed q ls ≡ q
  unfolding surveyed
  stops q [] h = refl
  stops q (l ∷ ls) h = rw h refl

  pub walk_refused : is_some r.refused ≡ true → r ≡ surveyed open_tally (lines 0 file)
  walk_refused h = sym (stops r (lines (at + next) (drop (at + next) file)) h) ∙ then

pub walk_small : {file : List ℕ} {at : ℕ} {s : Tally} → Walking file at s → at < length file → length file < 18446744073709551616 → Small s
walk_small w h k = record { lines = omega (arith, w.few); used = omega (arith, w.few_used); skipped = omega (arith, w.few_skipped) }

pub walk_ends : {file : List ℕ} {at : ℕ} {s : Tally} → length file ≤ at → Walking file at s → s ≡ surveyed open_tally (lines 0 file)
unfolding surveyed lines
walk_ends {file} {at} {s} h w = rw (drop_of_length-le file {i = at} h) at w.left
