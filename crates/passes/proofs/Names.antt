-- Where a name stands in its line: inside it. Assumes nothing.
use mathlib.Core.Path.{◌≡◌, refl}
use mathlib.Core.Bool.{Bool, true, false, not, cond}
use mathlib.Core.List.{List, [], ◌∷◌}
use Prim.Native.Nat.{ℕ, suc, ◌+◌, ◌≤◌}
use native.Mathlib.Omega.{arith}
use Rattle.std.proofs.Common.{Result, Ok, Err, Option, Some, None}
use lib.Dec.{ltb, eqb}
use lib.ListN.{length, get_or, take, drop, length-drop}
use borrow.Author.Tests.{eqb-false}
use Rattle.decimal.specs.Read.{Number, spells, number}
use Rattle.decimal.specs.declared.read.NumberError.TheVariants.{NotANumber, TooLong}
use Rattle.rfc3339.specs.Rfc3339.{date_time_of}
use Rattle.rfc3339.specs.declared.Timestamp.{Timestamp}
use Rattle.passes.specs.Text.{blank, blanks, keep_trimmed, trim_end, trim, until, ascii}
use Rattle.passes.specs.Line.{inside, sample_of, pair_of, fields, sample, center_line, named, header, trimmed_line, line_of}
use Rattle.passes.specs.declared.line.Line.{Line}
use Rattle.passes.specs.declared.line.Line.TheVariants.{Skipped, Name, Center, Sample}
use Rattle.refusal.specs.declared.Refusal.{Refusal}

abbrev pub starts : Result Line Refusal → ℕ
starts (Ok Skipped) = 0
starts (Err r) = 0
starts (Ok (Name n)) = n.start
starts (Ok (Center f)) = 0
starts (Ok (Sample t f)) = 0

abbrev pub ends : Result Line Refusal → ℕ
ends (Ok Skipped) = 0
ends (Err r) = 0
ends (Ok (Name n)) = n.end
ends (Ok (Center f)) = 0
ends (Ok (Sample t f)) = 0

-- a name, where there is one, stands in the first n bytes
pub record Within (n : ℕ) (x : Result Line Refusal) : Type 0 where
  pub order : starts x ≤ ends x
  pub inside : ends x ≤ n

-- ---- lengths

pub blanks_most : (l : List ℕ) → blanks l ≤ length l
unfolding blanks
blanks_most [] = omega arith
blanks_most (c ∷ l) = go (blank c) (blanks_most l)
  where
    go : (b : Bool) → blanks l ≤ length l → cond b (suc (blanks l)) 0 ≤ suc (length l)
    go true h = omega arith
    go false h = omega arith

pub end_most : (l : List ℕ) → length (trim_end l) ≤ length l
unfolding trim_end keep_trimmed
end_most [] = omega arith
end_most (c ∷ l) = go (trim_end l) (end_most l)
  where
    one : (b : Bool) → length (cond b [] (c ∷ [])) ≤ 1
    one true = omega arith
    one false = omega arith

    go : (m : List ℕ) → length m ≤ length l → length (keep_trimmed c m) ≤ suc (length l)
    go [] h = omega (arith, one (blank c))
    go (b ∷ m) h = omega arith

trim_most : (l : List ℕ) → blanks l + length (trim l) ≤ length l
unfolding trim
trim_most l = omega (arith, blanks_most l, end_most (drop (blanks l) l), length-drop (blanks l) l)

pub until_most : (b : ℕ) (l : List ℕ) → until b l ≤ length l
unfolding until
until_most b [] = omega arith
until_most b (c ∷ l) = go (eqb c b) (until_most b l)
  where
    go : (x : Bool) → until b l ≤ length l → cond x 0 (suc (until b l)) ≤ suc (length l)
    go true h = omega arith
    go false h = omega arith

-- ---- the line's forms

module _ (n : ℕ) where
  pick : (b : Bool) {x y : Result Line Refusal} → Within n x → Within n y → Within n (cond b x y)
  pick true p q = p
  pick false p q = q

  sample_of_in : (t : Timestamp) (v : Number) → Within n (sample_of t v)
  sample_of_in t (Err NotANumber) = record { order = omega arith; inside = omega arith }
  sample_of_in t (Ok f) = pick (inside t.seconds t.nanos) (record { order = omega arith; inside = omega arith }) (record { order = omega arith; inside = omega arith })
  sample_of_in t (Err TooLong) = pick (inside t.seconds t.nanos) (record { order = omega arith; inside = omega arith }) (record { order = omega arith; inside = omega arith })

  pair_in : (t : Option Timestamp) (v : Number) → Within n (pair_of t v)
  pair_in None v = record { order = omega arith; inside = omega arith }
  pair_in (Some t) v = sample_of_in t v

  skipped_in : Within n (Ok Skipped)
  skipped_in = record { order = omega arith; inside = omega arith }

  sample_in : (t : List ℕ) → Within n (sample t)
  unfolding sample fields
  sample_in t = pick (eqb (until 44 t) (length t)) skipped_in (pair_in (date_time_of (take (until 44 t) t)) (number (take (until 44 (drop (until 44 t + 1) t)) (drop (until 44 t + 1) t))))

  center_in_lem : (v : Number) → Within n (center_line v)
  center_in_lem (Err NotANumber) = record { order = omega arith; inside = omega arith }
  center_in_lem (Ok f) = record { order = omega arith; inside = omega arith }
  center_in_lem (Err TooLong) = record { order = omega arith; inside = omega arith }

  named_in : (key : List ℕ) (s : ℕ) (v : List ℕ) → s + length v ≤ n → Within n (named key s v)
  unfolding named
  named_in key s v h = pick (spells key _) (record { order = omega arith; inside = omega (arith, trim_most v) }) (pick (spells key _) (center_in_lem (number (trim v))) skipped_in)

  header_in : (s : ℕ) (h : List ℕ) → s + length h ≤ n → Within n (header s h)
  unfolding header
  header_in s h l = go (eqb (until 58 h) (length h)) refl
    where
      go : (b : Bool) → eqb (until 58 h) (length h) ≡ b → Within n (cond b (Ok Skipped) (named (trim (take (until 58 h) h)) (s + (until 58 h + 1)) (drop (until 58 h + 1) h)))
      go true e = skipped_in
      go false e = named_in _ _ _ (omega (arith, until_most 58 h, eqb-false (until 58 h) (length h) e, length-drop (until 58 h + 1) h))

  text_in : (s : ℕ) (t : List ℕ) → s + length t ≤ n → Within n (trimmed_line s t)
  unfolding trimmed_line
  text_in s t l = go (eqb (length t) 0) refl
    where
      go : (b : Bool) → eqb (length t) 0 ≡ b → Within n (cond b (Ok Skipped) (cond (eqb (get_or t 0 0) 35) (header (s + 1) (drop 1 t)) (sample t)))
      go true e = skipped_in
      go false e = pick (eqb (get_or t 0 0) 35) (header_in (s + 1) (drop 1 t) (omega (arith, eqb-false (length t) 0 e, length-drop 1 t))) (sample_in t)

pub line_in : (l : List ℕ) → Within (length l) (line_of l)
unfolding line_of
line_in l =
    let r : (k : Refusal) → Within (length l) (Err k) = λ k. record { order = omega arith; inside = omega arith } in
    pick (length l) (not (ascii l)) (r _) (pick (length l) (ltb 256 (length l)) (r _) (text_in (length l) (blanks l) (trim l) (trim_most l)))
