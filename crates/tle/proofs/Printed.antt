-- The theorem of the lines: what they carry, for every orbit that is not refused. Assumes nothing.
use mathlib.Core.Path.{◌≡◌, refl, sym, ap, ◌∙◌, subst}
use mathlib.Core.Logic.{◌⊎◌, inl, inr}
use mathlib.Core.Bool.{Bool, true, false, not, ◌&&◌, ◌||◌}
use mathlib.Core.List.{List, [], ◌∷◌, ◌++◌, append_assoc}
use Prim.Native.Nat.{ℕ, suc, ◌+◌, ◌*◌, ◌/◌, ◌%◌, ◌^◌, ◌≤◌, ◌<◌}
use native.Mathlib.Nat.{lt_of_le_of_lt, mod-lt}
use native.Mathlib.Omega.{arith}
use lib.Dec.{T, ltb, lit<, lit≤}
use lib.ListN.{length, take, drop}
use lib.Seq.{take_at, drop-append-add}
use lib.Ieee.{Float}
use Rattle.decimal.specs.Fixed.{nearest_units, digit_at, fixed_text}
use Rattle.decimal.specs.Read.{is_digit}
use Rattle.decimal.proofs.Theorems.{decimal_le}
use Rattle.moment.specs.Range.{taken, given_of}
use Rattle.moment.specs.declared.Moment.{Moment}
use Rattle.moment.specs.Time.{seconds_of}
use Rattle.moment.proofs.Ranges.{at_is}
use Rattle.tle.specs.Elements.{printed_degrees, within_turn, mean_motion_of, line_epoch}
use Rattle.tle.specs.Lines.{start1, rest1, start2, middle2, end2, body1, body2, checksum_of, closed, line1, line2, catalog_of}
use Rattle.std.specs.Prelude.{Option, Some, None, Ok}
use Rattle.refusal.specs.Refusals.{◌when◌, first_of, answer, written}
use Rattle.refusal.specs.declared.Refusal.{Refusal}
use Rattle.refusal.specs.declared.Refusal.TheVariants.{MomentRange, Unprintable, ShortMemory}
use Rattle.tle.specs.Answer.{orbit_fits, name_fits, lines_refusal, Formats}
use Rattle.tle.specs.Printed.{Class, only, digit, leading, later, is_blank, admits, matches_behind, matches_line, exactly, columns1, columns2, columns_of, read_digits, number_in, HalfUnit, Checked, Printed}
use Rattle.solution.specs.declared.SolvedOrbit.{SolvedOrbit}
use Rattle.tle.specs.declared.elements.Epoch.{Epoch}
use Rattle.tle.proofs.Columns.{checksum_lt}
use Rattle.tle.proofs.Ranges.{UpTo}
use Rattle.tle.proofs.Inclination.{inclination_up}
use Rattle.tle.proofs.Turn.{half, turn_up, around}
use Rattle.tle.proofs.Accepted.{epoch_up, sound, angle_up, motion_up}
use Rattle.tle.proofs.Answers.{line1_length, line2_length}
use Rattle.tle.proofs.Values.{value_text, digit_value, is_digit_lem, field_classes, Digital, field_matches, Right, right_cons, right_append, exact}

-- ---- numbers
carries : (p pad w m : ℕ) (v : Float) (N : ℕ) → UpTo m v → (pad ≡ 32) ⊎ (pad ≡ 48) → p ≤ w → m * 10 ^ p < 10 ^ w → N ≡ read_digits 0 (fixed_text pad p (nearest_units p v) (suc w)) → N ≡ nearest_units p v
carries p pad w m v N u q h l e = e ∙ value_text pad p (nearest_units p v) w q h (lt_of_le_of_lt (decimal_le p m v u.size) l)

near : (p m : ℕ) (v : Float) (N : ℕ) → UpTo m v → N ≡ nearest_units p v → HalfUnit p v N
near p m v N u d = rw d (half p v m u)

none : (n : ℕ) → read_digits n [] ≡ n
unfolding read_digits
none n = refl

checked : (n : ℕ) → n < 10 → read_digits 0 ((n + 48) ∷ []) ≡ n
checked n h = digit_value 0 n [] h ∙ none (0 * 10 + n) ∙ omega arith

two_digits_lem : (y : ℕ) → read_digits 0 (digit_at y 1 ∷ digit_at y 0 ∷ []) ≡ y % 100
two_digits_lem y =
    digit_value 0 (y / 10 ^ 1 % 10) (digit_at y 0 ∷ []) (mod-lt (y / 10 ^ 1) (lit< tt)) ∙ digit_value (0 * 10 + y / 10 ^ 1 % 10) (y / 10 ^ 0 % 10) [] (mod-lt (y / 10 ^ 0) (lit< tt))
    ∙ none ((0 * 10 + y / 10 ^ 1 % 10) * 10 + y / 10 ^ 0 % 10) ∙ omega arith

-- ---- columns
first_digit : (x y : Bool) → T x → T (x || y)
first_digit true y t = tt
first_digit false y t = absurd t

pub digital : Digital digit
unfolding Digital
digital b c t = t

pub leading_digital : Digital leading
unfolding Digital
leading_digital b c t = first_digit (is_digit c) (is_blank c) t

pub later_digital : Digital later
unfolding Digital
later_digital b c t = first_digit (is_digit c) (is_blank b && is_blank c) t

behind_blank : (b : ℕ) → b ≡ 32 → T (admits later b 32)
behind_blank b e = rw e tt

angle_columns_lem : (n : ℕ) → Right (field_classes leading later 4 7) (fixed_text 32 4 n 8)
unfolding Right
angle_columns_lem n = field_matches 32 4 n later later_digital behind_blank leading leading_digital (λ b. tt) 7

motion_columns_lem : (n : ℕ) → Right (field_classes leading later 8 10) (fixed_text 32 8 n 11)
unfolding Right
motion_columns_lem n = field_matches 32 8 n later later_digital behind_blank leading leading_digital (λ b. tt) 10

day_columns : (n : ℕ) → Right (field_classes digit digit 8 11) (fixed_text 48 8 n 12)
unfolding Right
day_columns n = field_matches 48 8 n digit digital (λ b e. tt) digit digital (λ b. tt) 11

ends : Right [] []
unfolding Right matches_behind
ends b = tt

digit_column : (ks : List Class) (d : ℕ) (l : List ℕ) → d < 10 → Right ks l → Right (digit ∷ ks) ((d + 48) ∷ l)
digit_column ks d l h q = right_cons digit ks (d + 48) l (λ b. is_digit_lem d h) q

-- a blank
blank_column_lem : (ks : List Class) (l : List ℕ) → Right ks l → Right (only 32 ∷ ks) (32 ∷ l)
blank_column_lem ks l q = right_cons (only 32) ks 32 l (λ b. tt) q

-- a line is put together from the right
line1_columns : (year day cs : ℕ) → cs < 10
    → T (matches_line columns1 (start1 ++ (digit_at year 1 ∷ (digit_at year 0 ∷ (fixed_text 48 8 day 12 ++ (rest1 ++ ((cs + 48) ∷ [])))))))
unfolding columns1 Right
line1_columns year day cs h =
    right_append (exactly start1) _ start1 _ (exact start1)
    (digit_column _ (year / 10 ^ 1 % 10) _ (mod-lt (year / 10 ^ 1) (lit< tt))
    (digit_column _ (year / 10 ^ 0 % 10) _ (mod-lt (year / 10 ^ 0) (lit< tt))
    (right_append (field_classes digit digit 8 11) _ (fixed_text 48 8 day 12) _ (day_columns day) (right_append (exactly rest1) _ rest1 _ (exact rest1) (digit_column [] cs [] h ends)))))
    0

tail2 : (u n cs : ℕ) → cs < 10
    → Right (exactly middle2 ++ (field_classes leading later 4 7 ++ (only 32 ∷ (field_classes leading later 8 10 ++ (exactly end2 ++ (digit ∷ []))))))
    (middle2 ++ (fixed_text 32 4 u 8 ++ (32 ∷ (fixed_text 32 8 n 11 ++ (end2 ++ ((cs + 48) ∷ []))))))
tail2 u n cs h =
    right_append (exactly middle2) _ middle2 _ (exact middle2)
    (right_append (field_classes leading later 4 7) _ (fixed_text 32 4 u 8) _ (angle_columns_lem u)
    (blank_column_lem _ _ (right_append (field_classes leading later 8 10) _ (fixed_text 32 8 n 11) _ (motion_columns_lem n) (right_append (exactly end2) _ end2 _ (exact end2) (digit_column [] cs [] h ends)))))

line2_columns : (i r u n cs : ℕ) → cs < 10
    → T (matches_line columns2 (start2 ++ (fixed_text 32 4 i 8 ++ (32 ∷ (fixed_text 32 4 r 8 ++ (middle2 ++ (fixed_text 32 4 u 8 ++ (32 ∷ (fixed_text 32 8 n 11 ++ (end2 ++ ((cs + 48) ∷ [])))))))))))
unfolding columns2 Right
line2_columns i r u n cs h =
    right_append (exactly start2) _ start2 _ (exact start2)
    (right_append (field_classes leading later 4 7) _ (fixed_text 32 4 i 8) _ (angle_columns_lem i)
    (blank_column_lem _ _ (right_append (field_classes leading later 4 7) _ (fixed_text 32 4 r 8) _ (angle_columns_lem r) (tail2 u n cs h))))
    0

-- ---- each line
record First (e : Epoch) (l : List ℕ) : Type 0 where
  columns : T (matches_line columns1 l)
  sum : Checked l
  year : number_in 19 20 l ≡ e.year % 100
  day : number_in 21 32 l ≡ nearest_units 8 e.day

body1_sum : (e : Epoch) → take 68 (line1 e) ≡ body1 e.year e.day
unfolding line1 closed body1 fixed_text
body1_sum e = refl

line1_sum : (e : Epoch) → number_in 69 69 (line1 e) ≡ read_digits 0 ((checksum_of (body1 e.year e.day) + 48) ∷ [])
unfolding number_in line1 closed body1 fixed_text
line1_sum e = refl

line1_year : (e : Epoch) → number_in 19 20 (line1 e) ≡ read_digits 0 (digit_at e.year 1 ∷ digit_at e.year 0 ∷ [])
unfolding number_in line1 closed body1 fixed_text
line1_year e = refl

line1_day : (e : Epoch) → number_in 21 32 (line1 e) ≡ read_digits 0 (fixed_text 48 8 (nearest_units 8 e.day) 12)
unfolding number_in line1 closed body1 fixed_text
line1_day e = refl

line1_matches : (e : Epoch) → T (matches_line columns1 (line1 e))
unfolding line1 closed body1 fixed_text
line1_matches e = line1_columns e.year (nearest_units 8 e.day) (checksum_of (body1 e.year e.day)) (checksum_lt (body1 e.year e.day))

first : (e : Epoch) → UpTo 367 e.day → First e (line1 e)
first e h =
    let b = body1 e.year e.day in
    record {
      columns = line1_matches e;
      sum = line1_sum e ∙ checked (checksum_of b) (checksum_lt b) ∙ sym (ap checksum_of (body1_sum e));
      year = line1_year e ∙ two_digits_lem e.year;
      day = carries 8 48 11 367 e.day _ h (inr refl) (lit≤ tt) (lit< tt) (line1_day e);
    }

record Second (i r u n : Float) (l : List ℕ) : Type 0 where
  columns : T (matches_line columns2 l)
  sum : Checked l
  inclination : number_in 9 16 l ≡ nearest_units 4 i
  node : number_in 18 25 l ≡ nearest_units 4 r
  eccentricity : number_in 27 33 l ≡ 0
  perigee : number_in 35 42 l ≡ 0
  anomaly : number_in 44 51 l ≡ nearest_units 4 u
  motion : number_in 53 63 l ≡ nearest_units 8 n
  revolution : number_in 64 68 l ≡ 0

-- of any four numbers
module _ (i r u n : Float) where
  abbrev line : List ℕ
  line = closed (body2 i r u n)

  body2_sum : take 68 line ≡ body2 i r u n
  unfolding closed body2 fixed_text
  body2_sum = refl

  line2_sum : number_in 69 69 line ≡ read_digits 0 ((checksum_of (body2 i r u n) + 48) ∷ [])
  unfolding number_in closed body2 fixed_text
  line2_sum = refl

  inclination_at : columns_of 9 16 line ≡ fixed_text 32 4 (nearest_units 4 i) 8
  unfolding closed body2 fixed_text
  inclination_at = refl

  pub node_at : columns_of 18 25 line ≡ fixed_text 32 4 (nearest_units 4 r) 8
  unfolding closed body2 fixed_text
  node_at = refl

  pub anomaly_at : columns_of 44 51 line ≡ fixed_text 32 4 (nearest_units 4 u) 8
  unfolding closed body2 fixed_text
  anomaly_at = refl

  motion_at : columns_of 53 63 line ≡ fixed_text 32 8 (nearest_units 8 n) 11
  unfolding closed body2 fixed_text
  motion_at = refl

  zeros : (number_in 27 33 line ≡ 0) × (number_in 35 42 line ≡ 0) × (number_in 64 68 line ≡ 0)
  unfolding number_in closed body2 fixed_text read_digits
  zeros = (refl, refl, refl)

  line2_is : start2 ++ (fixed_text 32 4 (nearest_units 4 i) 8 ++ (32 ∷ (fixed_text 32 4 (nearest_units 4 r) 8 ++ (middle2
      ++ (fixed_text 32 4 (nearest_units 4 u) 8 ++ (32 ∷ (fixed_text 32 8 (nearest_units 8 n) 11 ++ (end2 ++ ((checksum_of (body2 i r u n) + 48) ∷ []))))))))) ≡ line
  unfolding closed body2 fixed_text
  line2_is = refl

  line2_matches : T (matches_line columns2 line)
  line2_matches =
      subst (λ (l : List ℕ). T (matches_line columns2 l)) line2_is
      (line2_columns (nearest_units 4 i) (nearest_units 4 r) (nearest_units 4 u) (nearest_units 8 n) (checksum_of (body2 i r u n)) (checksum_lt (body2 i r u n)))

  second : UpTo 360 i → UpTo 360 r → UpTo 360 u → UpTo 54 n → Second i r u n line
  unfolding number_in
  second hi hr hu hn =
      let b = body2 i r u n in
      let z = zeros in
      record {
        columns = line2_matches;
        sum = line2_sum ∙ checked (checksum_of b) (checksum_lt b) ∙ sym (ap checksum_of body2_sum);
        inclination = carries 4 32 7 360 i _ hi (inl refl) (lit≤ tt) (lit< tt) (ap (read_digits 0) inclination_at);
        node = carries 4 32 7 360 r _ hr (inl refl) (lit≤ tt) (lit< tt) (ap (read_digits 0) node_at);
        eccentricity = z.0;
        perigee = z.1;
        anomaly = carries 4 32 7 360 u _ hu (inl refl) (lit≤ tt) (lit< tt) (ap (read_digits 0) anomaly_at);
        motion = carries 8 32 10 54 n _ hn (inl refl) (lit≤ tt) (lit< tt) (ap (read_digits 0) motion_at);
        revolution = z.2;
      }

-- of an orbit's
second_of : (o : SolvedOrbit) → T (orbit_fits o) → Second (printed_degrees o.i) (within_turn (printed_degrees o.raan0)) (within_turn (printed_degrees o.u0)) (mean_motion_of o.a) (line2 o)
unfolding line2
second_of o h =
    let s = sound o h in
    second _ _ _ _ (angle_up o.i s.i_fits) (turn_up _ (angle_up o.raan0 s.raan0_fits)) (turn_up _ (angle_up o.u0 s.u0_fits)) (motion_up o.a s.radius)

-- ---- the inclination is printed up to 180.0000
pub inclination_most : (o : SolvedOrbit) → T (orbit_fits o) → number_in 9 16 (line2 o) ≤ 1800000
inclination_most o h = rw (second_of o h).inclination (decimal_le 4 180 (printed_degrees o.i) (inclination_up o.i (sound o h).i_inside).size)

-- ---- the theorem
epoch_fits : (t : Moment) → taken t ≡ true → UpTo 367 (line_epoch t).day
unfolding given_of
epoch_fits t h = epoch_up (seconds_of t.seconds) t.nanos (at_is t.seconds t.nanos (record { secs = seconds_of t.seconds; nanos = t.nanos }) (simp h)).accepted

pub printed : (o : SolvedOrbit) → taken o.epoch ≡ true → T (orbit_fits o) → Printed o (line1 (line_epoch o.epoch)) (line2 o)
printed o h g =
    let e = epoch_fits o.epoch h in
    let s = sound o g in
    let a = first (line_epoch o.epoch) e in
    let b = second_of o g in
    record {
      length_1 = line1_length (line_epoch o.epoch);
      length_2 = line2_length o;
      columns_1 = a.columns;
      columns_2 = b.columns;
      checksum_1 = a.sum;
      checksum_2 = b.sum;
      year = a.year;
      day_of_year = near 8 367 _ _ e a.day;
      inclination = near 4 360 _ _ (angle_up o.i s.i_fits) b.inclination;
      node = around _ _ (angle_up o.raan0 s.raan0_fits) b.node;
      eccentricity = b.eccentricity;
      perigee = b.perigee;
      mean_anomaly = around _ _ (angle_up o.u0 s.u0_fits) b.anomaly;
      mean_motion = near 8 54 _ _ (motion_up o.a s.radius) b.motion;
      revolution = b.revolution;
    }

-- ---- each number as it is printed, in units of its last place
pub record Digits (o : SolvedOrbit) (l1 l2 : List ℕ) : Type 0 where
  pub day_of_year : number_in 21 32 l1 ≡ nearest_units 8 (line_epoch o.epoch).day
  pub inclination : number_in 9 16 l2 ≡ nearest_units 4 (printed_degrees o.i)
  pub node : number_in 18 25 l2 ≡ nearest_units 4 (within_turn (printed_degrees o.raan0))
  pub mean_anomaly : number_in 44 51 l2 ≡ nearest_units 4 (within_turn (printed_degrees o.u0))
  pub mean_motion : number_in 53 63 l2 ≡ nearest_units 8 (mean_motion_of o.a)

pub digits : (o : SolvedOrbit) → taken o.epoch ≡ true → T (orbit_fits o) → Digits o (line1 (line_epoch o.epoch)) (line2 o)
digits o h g =
    let a = first (line_epoch o.epoch) (epoch_fits o.epoch h) in
    let b = second_of o g in
    record {
      day_of_year = a.day;
      inclination = b.inclination;
      node = b.node;
      mean_anomaly = b.anomaly;
      mean_motion = b.motion;
    }

-- ---- the same of the bytes that a call leaves in `out`
passed : (a b c d : Bool) → first_of ((MomentRange when not a) ∷ (Unprintable when not (b && c)) ∷ (ShortMemory when d) ∷ []) ≡ None → (a ≡ true) × T b
passed true true c d e = (refl, tt)
passed true false c d e = absurd cc
passed false b c d e = absurd cc

accepted : (name : List ℕ) (o : SolvedOrbit) (room : ℕ) → lines_refusal name o room ≡ None → (taken o.epoch ≡ true) × T (orbit_fits o)
unfolding lines_refusal
accepted name o room e = passed (taken o.epoch) (orbit_fits o) (name_fits name) (ltb room (length name + 141)) e

-- an answer was not refused
pub none_of : (r : Option Refusal) (k n : ℕ) → Ok n ≡ answer r k → r ≡ None
none_of None k n e = refl
none_of (Some r) k n e = absurd cc

catalog_is : (name rest : List ℕ) (o : SolvedOrbit) → catalog_of name o ++ rest ≡ name ++ (10 ∷ (line1 (line_epoch o.epoch) ++ (10 ∷ (line2 o ++ (10 ∷ rest)))))
unfolding catalog_of
catalog_is name rest o = simp append_assoc

first_at : (name l q : List ℕ) → length l ≡ 69 → take 69 (drop (length name + 1) (name ++ (10 ∷ (l ++ q)))) ≡ l
first_at name l q h = ap (take 69) (drop-append-add name (10 ∷ (l ++ q)) 1) ∙ take_at l q 69 h

second_at : (name k l q : List ℕ) → length k ≡ 69 → length l ≡ 69 → take 69 (drop (length name + 71) (name ++ (10 ∷ (k ++ (10 ∷ (l ++ q)))))) ≡ l
second_at name k l q h g =
    let e : length k + 1 ≡ 70 = omega arith in
    ap (take 69) (drop-append-add name (10 ∷ (k ++ (10 ∷ (l ++ q)))) 71 ∙ ap (λ (n : ℕ). drop n (k ++ (10 ∷ (l ++ q)))) (sym e) ∙ drop-append-add k (10 ∷ (l ++ q)) 1) ∙ take_at l q 69 g

pub record WrittenLines (o : SolvedOrbit) (l1 l2 : List ℕ) : Type 0 where
  pub first_is : l1 ≡ line1 (line_epoch o.epoch)
  pub second_is : l2 ≡ line2 o
  pub epoch_taken : taken o.epoch ≡ true
  pub orbit_fits_lem : T (orbit_fits o)

pub format_lines : (name out out' : List ℕ) (o : SolvedOrbit) (n : ℕ) → Formats name o out out' (Ok n) → WrittenLines o (take 69 (drop (length name + 1) out')) (take 69 (drop (length name + 71) out'))
format_lines name out out' o n f =
    let e = none_of (lines_refusal name o (length out)) (length name + 141) n f.answer in
    let a = accepted name o (length out) e in
    let rest = drop (length name + 141) out in
    let l1 = line1 (line_epoch o.epoch) in
    let s1 = line1_length (line_epoch o.epoch) in
    let t : out' ≡ name ++ (10 ∷ (l1 ++ (10 ∷ (line2 o ++ (10 ∷ rest))))) =
    f.text ∙ ap (λ (x : Option Refusal). written x (catalog_of name o ++ rest) out) e ∙ catalog_is name rest o in
    record {
      first_is = ap (λ (x : List ℕ). take 69 (drop (length name + 1) x)) t ∙ first_at name l1 (10 ∷ (line2 o ++ (10 ∷ rest))) s1;
      second_is = ap (λ (x : List ℕ). take 69 (drop (length name + 71) x)) t ∙ second_at name l1 (line2 o) (10 ∷ rest) s1 (line2_length o);
      epoch_taken = a.0;
      orbit_fits_lem = a.1;
    }

pub format_printed : (name out out' : List ℕ) (o : SolvedOrbit) (n : ℕ) → Formats name o out out' (Ok n) → Printed o (take 69 (drop (length name + 1) out')) (take 69 (drop (length name + 71) out'))
format_printed name out out' o n f =
    let l = format_lines name out out' o n f in
    rw (l.first_is, l.second_is) (printed o l.epoch_taken l.orbit_fits_lem)
