-- A line of stored answers: a word, fields, ` =`, fields. A field is a blank and 16 hexadecimal digits. Definitions only.
use Rattle.std.specs.Prelude.{ℕ, suc, ◌+◌, ◌-◌, ◌*◌, ◌/◌, ◌%◌, ◌^◌, ◌<◌, ◌≡◌, Bool, true, false, cond, List, [], ◌∷◌, eqb, ltb, length, get_or, take, drop, ℤ, pos, Float, Result, Ok, Err}
use Rattle.refusal.specs.declared.Refusal.{Refusal}
use Rattle.refusal.specs.Refusals.{number_of}
use Rattle.std.specs.Float.{nan, binary64}
use Rattle.std.specs.Float.Ieee.{of_bits}
use Rattle.std.specs.Int.{w64}
use Rattle.std.proofs.Common.{to_z}
use Rattle.answer_lines.specs.Word.{hex_word_at}
use Rattle.answer_lines.specs.declared.SetSizes.{SetSizes}

-- how many bytes stand before the first b: all, where there is none
unfoldable pub first_place : ℕ → List ℕ → ℕ
first_place b [] = 0
first_place b (c ∷ l) = cond (eqb c b) 0 (suc (first_place b l))

-- the name stands at the line's beginning
unfoldable pub begins_with : List ℕ → List ℕ → Bool
begins_with [] line = true
begins_with (c ∷ name) [] = false
begins_with (c ∷ name) (b ∷ line) = cond (eqb b c) (begins_with name line) false

-- the word that the line begins with
unfoldable pub line_word : List ℕ → List ℕ
line_word line = take (first_place 32 line) line

-- the name stands somewhere in the table
unfoldable pub occurs : List ℕ → List ℕ → Bool
occurs name [] = false
occurs name (c ∷ table) = cond (begins_with name (c ∷ table)) true (occurs name table)

-- no line with another word agrees
pub record OnlyWords (table line : List ℕ) (agrees : Bool) : Type 0 where
  pub other : occurs (line_word line) table ≡ false → agrees ≡ false

-- the fields that are asked: from the first blank up to the `=`
unfoldable pub asked_fields : List ℕ → List ℕ
asked_fields line = let before = take (first_place 61 line) line in drop (first_place 32 before) before

-- the fields of the answer: what stands after the `=`
unfoldable pub answer_fields : List ℕ → List ℕ
answer_fields line = drop (first_place 61 line + 1) line

-- the fields from field k on
unfoldable pub fields_from : ℕ → List ℕ → List ℕ
fields_from k fields = drop (17 * k) fields

-- field k, counted from 0
unfoldable pub field_at : List ℕ → ℕ → ℕ
field_at fields k = hex_word_at (fields_from k fields) 1

-- the fields after the list at the first field: how many, and then each
unfoldable pub after_list : List ℕ → List ℕ
after_list fields = fields_from (1 + field_at fields 0) fields

unfoldable pub float_field : List ℕ → ℕ → Float
float_field fields k = of_bits binary64 (field_at fields k)

-- the last 32 bits of field k
unfoldable pub count_field : List ℕ → ℕ → ℕ
count_field fields k = field_at fields k % 4294967296

-- the number whose two's complement is field k
unfoldable pub signed_field : List ℕ → ℕ → ℤ
signed_field fields k = to_z w64 (field_at fields k)

-- byte i of bytes that lie eight to a field, the first in the highest digits
unfoldable pub packed_byte : List ℕ → ℕ → ℕ
packed_byte fields i = field_at fields (i / 8) / 2 ^ (56 - 8 * (i % 8)) % 256

-- every element passes the test, which is given the place too
unfoldable pub every : {A : Type 0} → (ℕ → A → Bool) → ℕ → List A → Bool
every test i [] = true
every test i (x ∷ l) = cond (test i x) (every test (i + 1) l) false

-- the list at the first field, how many and then each, has n elements, and they pass the test
unfoldable pub same_list : {A : Type 0} → (List ℕ → List A → Bool) → List ℕ → ℕ → List A → Bool
same_list items fields n x = cond (eqb (field_at fields 0) n) (cond (ltb (length x) n) false (items (fields_from 1 fields) (take n x))) false

-- a result is what the answer's first field k and a test say: refused by this number, or by 0 accepted with a value that the test is asked of
abbrev pub Tells : {A : Type 0} → (A → Bool → Type 0) → ℕ → Result A Refusal → Bool → Type 0
Tells test k (Ok v) b = (k ≡ 0 → test v b) × ((k ≡ 0 → ⊥) → b ≡ false)
Tells test k (Err r) b = b ≡ eqb k (number_of r)

-- place i of the list has what f says, for each of its places
pub record FilledBy {A : Type 0} (f : ℕ → A) (none : A) (l : List A) : Type 0 where
  pub at : (i : ℕ) → i < length l → get_or l i none ≡ f i

-- a pass set: lists of counts, centres, times and frequencies, one after the other, each with its length before it
abbrev pub center_list : List ℕ → List ℕ
center_list set = after_list set

abbrev pub time_list : List ℕ → List ℕ
time_list set = after_list (center_list set)

abbrev pub freq_list : List ℕ → List ℕ
freq_list set = after_list (time_list set)

-- its lengths are said, and its lists stand from the arrays' first places on
pub record ReadsSet (set counts : List ℕ) (centers : List Float) (times : List ℤ) (freqs : List Float) (r : SetSizes) : Type 0 where
  pub sizes : r ≡ record { counts = field_at set 0; centers = field_at (center_list set) 0; times = field_at (time_list set) 0; freqs = field_at (freq_list set) 0 }
  pub counted : FilledBy (count_field (fields_from 1 set)) 0 counts
  pub centred : FilledBy (float_field (fields_from 1 (center_list set))) nan centers
  pub timed : FilledBy (signed_field (fields_from 1 (time_list set))) (pos 0) times
  pub heard : FilledBy (float_field (fields_from 1 (freq_list set))) nan freqs
