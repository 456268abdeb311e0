-- What numbers of fields, and three of them, come to. Assumes nothing.
use mathlib.Core.Path.{◌≡◌, sym, ap, ◌∙◌}
use mathlib.Core.Bool.{true, false}
use mathlib.Core.List.{List, [], ◌∷◌, map}
use Prim.Native.Nat.{ℕ, suc, ◌+◌, ◌≤◌, ◌<◌}
use native.Mathlib.Omega.{arith}
use lib.ListN.{length, take, drop, length-map}
use lib.Seq.{take-length}
use borrow.Author.Tests.{ne_eqb}
use Rattle.text.specs.Text.{code}
use Rattle.passes.specs.Text.{until}
use Rattle.std.proofs.Common.{Err}
use Rattle.refusal.specs.declared.Refusal.TheVariants.{NumberSize, PositionRange}
use Rattle.decimal.specs.Read.{Number, number}
use Rattle.geodetic.specs.Ellipsoid.{wgs84_to_ecef_of}
use Rattle.geodetic.specs.Line.{fields_of, one_too_long, field_value, from_numbers}
use Rattle.geodetic.proofs.Fields.{fields_one, fields_more, fields_some}

-- not three: 13
pub not_three : (ns : List Number) → (length ns ≡ 3 → ⊥) → Err PositionRange ≡ from_numbers ns
unfolding from_numbers
not_three ns h = simp (ne_eqb (length ns) 3 h)

-- three, one too long: 3
pub three_long : (a b c : Number) → one_too_long (a ∷ b ∷ c ∷ []) ≡ true → Err NumberSize ≡ from_numbers (a ∷ b ∷ c ∷ [])
unfolding from_numbers
three_long a b c h = simp h

-- none: the place by their values, which has 13 of its own
pub three_taken : (a b c : Number) → one_too_long (a ∷ b ∷ c ∷ []) ≡ false → wgs84_to_ecef_of (field_value a) (field_value b) (field_value c) ≡ from_numbers (a ∷ b ∷ c ∷ [])
unfolding from_numbers wgs84_to_ecef_of
three_taken a b c h = simp h

-- ---- the numbers of a line's fields, where its first comma stands at k, or k is its length
module _ (l : List ℕ) (k : ℕ) (e : k ≡ until (code ",") l) (b : k ≤ length l) where
  pub only : k ≡ length l → map number (fields_of l) ≡ number l ∷ []
  only h = ap (map number) (fields_one l (sym e ∙ h))

  pub next : (k ≡ length l → ⊥) → map number (fields_of l) ≡ number (take k l) ∷ map number (fields_of (drop (k + 1) l))
  next h =
      let z : until (code ",") l < length l = omega arith in
      let y : suc (until (code ",") l) ≡ k + 1 = omega arith in
      ap (map number) (fields_more l z) ∙ (λ j. number (take (sym e j) l) ∷ map number (fields_of (drop (y j) l)))

  -- three, and more
  pub third_is : {p : Number} (lat lon : Number) → p ≡ number (take k l) → k ≡ length l → from_numbers (lat ∷ lon ∷ p ∷ []) ≡ from_numbers (lat ∷ lon ∷ map number (fields_of l))
  third_is lat lon q h =
      ap (λ (n : Number). from_numbers (lat ∷ lon ∷ n ∷ [])) (q ∙ ap (λ (j : ℕ). number (take j l)) h ∙ ap number (take-length l))
      ∙ sym (ap (λ (ns : List Number). from_numbers (lat ∷ lon ∷ ns)) (only h))

  pub fourth : (lat lon : Number) → (k ≡ length l → ⊥) → Err PositionRange ≡ from_numbers (lat ∷ lon ∷ map number (fields_of l))
  fourth lat lon h =
      let m = map number (fields_of (drop (k + 1) l)) in
      let n = length-map (fields_of (drop (k + 1) l)) number in
      let o = fields_some (drop (k + 1) l) in
      not_three (lat ∷ lon ∷ number (take k l) ∷ m) (λ (z : length (lat ∷ lon ∷ number (take k l) ∷ m) ≡ 3). omega arith)
      ∙ sym (ap (λ (ns : List Number). from_numbers (lat ∷ lon ∷ ns)) (next h))
