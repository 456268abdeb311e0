-- Sample times at the boundary: what the range test says in unsigned numbers, what the machine reads of a sum, and what
-- callers ask of moments. Assumes nothing.
use Rattle.std.proofs.Common.{int_lt, leb, ltb-true, ltb-false, le-leb, ◌≡◌, ℕ, zero, suc, ◌+◌, ◌-◌, ◌*◌, ◌/◌, ◌%◌, ◌^◌, ◌<◌, ◌≤◌, Bool, true, false, not, ◌&&◌, ltb, List, [], ◌∷◌, length, get_or, ℤ, pos, negsuc, ◌+ℤ◌, ◌-ℤ◌, sym, refl, ap, ◌∙◌, ap₂, le_of_suc-le-suc, not-suc-le-zero, arith, lit<, w64, SFits, to_z, of_z, ltb-false, ltb-true, le-ltb, lt-ltb, le-leb}
use lib.IntN.{sub_ℕ}
use lib.Signed.{mag, le_z}
use mir.ValLaws.{to_z-of_z, to_z_pos}
use borrow.Author.Tests.{not-true, lt-leb}
use Rattle.std.specs.List.{list_all}
use Rattle.laws.proofs.Tests.{and_true}
use Rattle.moment.specs.Origin.{time1957, count1957, count1970, count2057, counts_start, per_second, start1957, start1970, start2057}
use Rattle.moment.specs.declared.Instant.{Instant}
use Rattle.moment.specs.declared.Moment.{Moment}
use Rattle.moment.specs.Time.{nanos_of, seconds_of, Sound}
use Rattle.moment.specs.Range.{in_range, taken, moment_count, Within}
use Rattle.moment.specs.Sample.{time_in_range, times_in_range, Timed, shifted, sample_count, instant_at, moment_at, since_of}

-- ---- a shift of a signed number

-- z + k of a z above −k
pub add_shift : (k : ℕ) (z : ℤ) → mag z < k → z +ℤ pos k ≡ pos (shifted k z)
unfolding shifted
add_shift k (pos n) h = refl
add_shift k (negsuc n) h = simp (le-ltb k (suc n) (omega arith))

-- what the machine reads of the sum
pub read_shift : (k : ℕ) (z : ℤ) → SFits w64 z → mag z < k → shifted k z < 2 ^ 63 → to_z w64 (of_z w64 (to_z w64 (of_z w64 z) +ℤ pos k)) ≡ pos (shifted k z)
read_shift k z f h s =
    ap (λ (y : ℤ). to_z w64 (of_z w64 (y +ℤ pos k))) (to_z-of_z w64 z f)
    ∙ ap (λ (y : ℤ). to_z w64 (of_z w64 y)) (add_shift k z h)
    ∙ to_z-of_z w64 (pos (shifted k z)) (record { sfits = s })

-- a larger shift
shift_more : (j k : ℕ) (z : ℤ) → mag z < k → shifted (k + j) z ≡ shifted k z + j
unfolding shifted
shift_more j k (pos n) h = omega arith
shift_more j k (negsuc n) h = omega arith

-- ---- the range

pub record Ranged (t : ℤ) : Type 0 where
  pub size : mag t < count1970
  pub low : count1957 ≤ shifted count1970 t
  pub high : shifted count1970 t < count2057
  pub count : sample_count t ≡ shifted count1970 t + (counts_start * per_second)

pub ranged : (t : ℤ) → time_in_range t ≡ true → Ranged t
unfolding time_in_range shifted
ranged (pos n) e = let h = ltb-true n 2745532800000000000 e in record { size = omega arith; low = omega arith; high = omega arith; count = omega arith }
ranged (negsuc n) e =
    let h = ltb-false 410227199999999999 n (not-true _ (and_true (not (ltb 410227199999999999 n)) true e).0) in
    record { size = omega arith; low = omega arith; high = omega arith; count = omega arith }

-- ---- moments

pub both : {a b c d : ℕ} → a ≡ b → c ≡ d → ◌≡◌ {A = Instant} (record { secs = a; nanos = c }) (record { secs = b; nanos = d })
both p q = cc

-- the code's seconds and nanoseconds
instant_is : (t : ℤ) → time_in_range t ≡ true
    → ◌≡◌ {A = Instant} (record { secs = shifted count1970 t / 1000000000 + counts_start; nanos = shifted count1970 t % 1000000000 }) (instant_at t)
unfolding instant_at
instant_is t e = split (shifted count1970 t) (sample_count t) (ranged t e).count
  where
    split : (n m : ℕ) → m ≡ n + (counts_start * per_second) → ◌≡◌ {A = Instant} (record { secs = n / 1000000000 + counts_start; nanos = n % 1000000000 }) (record { secs = m / 1000000000; nanos = m % 1000000000 })
    split n m h =
        let a : n / 1000000000 + counts_start ≡ m / 1000000000 = omega arith in
        let b : n % 1000000000 ≡ m % 1000000000 = omega arith in
        both a b

pub instant_within : (t : ℤ) → time_in_range t ≡ true → Within 0 (instant_at t).secs (instant_at t).nanos
unfolding instant_at
instant_within t e = let r = ranged t e in let c = r.count in record { low = omega arith; high = omega arith; part = omega arith }

-- both, as the code has them
pub of_nanos : (t : ℤ) → time_in_range t ≡ true
    → (◌≡◌ {A = Instant} (record { secs = shifted count1970 t / 1000000000 + counts_start; nanos = shifted count1970 t % 1000000000 }) (instant_at t))
    × Within 0 (shifted count1970 t / 1000000000 + counts_start) (shifted count1970 t % 1000000000)
of_nanos t e = let r = ranged t e in (instant_is t e, record { low = omega arith; high = omega arith; part = omega arith })

-- a sample time's moment counts its nanoseconds
pub instant_counts : (t : ℤ) → nanos_of (instant_at t).secs (instant_at t).nanos ≡ sample_count t
unfolding instant_at
instant_counts t = omega arith

-- ---- every sample in range

each_at : (ts : List ℤ) (k : ℕ) → k < length ts → times_in_range ts ≡ true → time_in_range (get_or ts k (pos 0)) ≡ true
unfolding times_in_range
each_at [] k h e = absurd (not-suc-le-zero h)
each_at (t ∷ ts) zero h e = (and_true (time_in_range t) (times_in_range ts) e).0
each_at (t ∷ ts) (suc k) h e = each_at ts k (le_of_suc-le-suc h) (and_true (time_in_range t) (times_in_range ts) e).1

pub timed : {ts : List ℤ} → times_in_range ts ≡ true → Timed ts
timed {ts} e = record { each = λ k h. each_at ts k h e }

pub all_times : (ts : List ℤ) → list_all time_in_range ts ≡ times_in_range ts
unfolding times_in_range
all_times [] = refl
all_times (t ∷ ts) = ap (λ (b : Bool). time_in_range t && b) (all_times ts)

-- not below 1957's start
pub from_1957 : (t : ℤ) → le_z time1957 t ≡ not (int_lt t time1957)
from_1957 (pos n) = refl
from_1957 (negsuc n) = go (ltb 410227199999999999 n) refl
  where
    go : (b : Bool) → ltb 410227199999999999 n ≡ b → leb n 410227199999999999 ≡ not b
    go true e = lt-leb n 410227199999999999 (ltb-true 410227199999999999 n e)
    go false e = le-leb n 410227199999999999 (ltb-false 410227199999999999 n e)

-- ---- differences of two unsigned numbers

sub_test : (b : Bool) (x y j : ℕ) → ltb x y ≡ b → sub_ℕ (x + j) (y + j) ≡ sub_ℕ x y
sub_test true x y j e =
    let h = ltb-true x y e in
    let same : y + j - suc (x + j) ≡ y - suc x = omega arith in
    simp (e, lt-ltb (x + j) (y + j) (omega arith), same)
sub_test false x y j e =
    let h = ltb-false x y e in
    let same : x + j - (y + j) ≡ x - y = omega arith in
    simp (e, le-ltb (x + j) (y + j) (omega arith), same)

-- j more on both sides
pub sub_both : (x y j : ℕ) → sub_ℕ (x + j) (y + j) ≡ sub_ℕ x y
sub_both x y j = sub_test (ltb x y) x y j refl

mag_test : (b : Bool) (x y : ℕ) → ltb x y ≡ b → x < 2 ^ 63 → y < 2 ^ 63 → mag (sub_ℕ x y) < 2 ^ 63
mag_test true x y e h g = let l = ltb-true x y e in simp e (omega arith)
mag_test false x y e h g = let l = ltb-false x y e in simp e (omega arith)

pub sub_fits : (x y : ℕ) → x < 2 ^ 63 → y < 2 ^ 63 → SFits w64 (sub_ℕ x y)
sub_fits x y h g = record { sfits = mag_test (ltb x y) x y refl h g }

pub read_sub : (n : ℕ) → n < 2 ^ 63 → to_z w64 n -ℤ pos count1970 ≡ sub_ℕ n count1970
read_sub n h = ap (λ (y : ℤ). y -ℤ pos count1970) (to_z_pos w64 n h)

since_is : (m : Instant) → Within 622 m.secs m.nanos → sub_ℕ ((m.secs - counts_start) * 1000000000 + m.nanos) count1970 ≡ since_of m
unfolding since_of
since_is m w =
    let e : (m.secs - counts_start) * 1000000000 + m.nanos + (counts_start * per_second) ≡ nanos_of m.secs m.nanos = omega arith in
    sym (sub_both ((m.secs - counts_start) * 1000000000 + m.nanos) count1970 (counts_start * per_second)) ∙ ap (λ (x : ℕ). sub_ℕ x (start1970 * per_second)) e

-- what the machine makes of it
pub read_since : (m : Instant) → Within 622 m.secs m.nanos
    → to_z w64 (of_z w64 (to_z w64 ((m.secs - counts_start) * 1000000000 + m.nanos) -ℤ pos count1970)) ≡ since_of m
read_since m w =
    ap (λ (y : ℤ). to_z w64 (of_z w64 y)) (read_sub ((m.secs - counts_start) * 1000000000 + m.nanos) (omega arith))
    ∙ to_z-of_z w64 (sub_ℕ ((m.secs - counts_start) * 1000000000 + m.nanos) count1970) (sub_fits ((m.secs - counts_start) * 1000000000 + m.nanos) count1970 (omega arith) (lit< tt))
    ∙ since_is m w

-- ---- there and back

back_test : (k : ℕ) (t : ℤ) → mag t < k → sub_ℕ (shifted k t) k ≡ t
unfolding shifted
back_test k (pos n) h =
    let same : n + k - k ≡ n = omega arith in
    simp (le-ltb (n + k) k (omega arith), same)
back_test k (negsuc n) h =
    let same : k - suc (k - suc n) ≡ n = omega arith in
    simp (lt-ltb (k - suc n) k (omega arith), same)

-- the nanoseconds since 1970 of a sample time's moment are the sample time
pub since_instant : (t : ℤ) → time_in_range t ≡ true → since_of (instant_at t) ≡ t
unfolding since_of
since_instant t e =
    ap (λ (x : ℕ). sub_ℕ x (start1970 * per_second)) (instant_counts t ∙ (ranged t e).count)
    ∙ sub_both (shifted count1970 t) count1970 (counts_start * per_second)
    ∙ back_test count1970 t (ranged t e).size

-- ---- a sample time as a moment for callers

secs_of : (t : ℤ) → mag t < count1970 → seconds_of (moment_at t).seconds ≡ (instant_at t).secs
unfolding moment_at instant_at seconds_of shifted
secs_of (pos n) h = omega arith
secs_of (negsuc n) h = omega arith

nanos_of_lem : (t : ℤ) → mag t < count1970 → (moment_at t).nanos ≡ (instant_at t).nanos
unfolding moment_at instant_at shifted
nanos_of_lem (pos n) h = omega arith
nanos_of_lem (negsuc n) h = omega arith

shifted_secs : (t : ℤ) → mag t < count1970 → shifted start1970 (moment_at t).seconds ≡ (instant_at t).secs
unfolding moment_at instant_at shifted
shifted_secs (pos n) h = omega arith
shifted_secs (negsuc n) h = omega arith

small_secs : (t : ℤ) → mag t < count1970 → mag (moment_at t).seconds < start1970
unfolding moment_at
small_secs (pos n) h = omega arith
small_secs (negsuc n) h = omega arith

back_secs : (t : ℤ) → mag t < count1970 → sub_ℕ (instant_at t).secs start1970 ≡ (moment_at t).seconds
back_secs t h = ap (λ (x : ℕ). sub_ℕ x start1970) (sym (shifted_secs t h)) ∙ back_test start1970 (moment_at t).seconds (small_secs t h)

module _ (t : ℤ) (e : time_in_range t ≡ true) where
  -- its seconds and nanoseconds are those of its instant
  pub moment_secs : seconds_of (moment_at t).seconds ≡ (instant_at t).secs
  moment_secs = secs_of t (ranged t e).size

  pub moment_nanos : (moment_at t).nanos ≡ (instant_at t).nanos
  moment_nanos = nanos_of_lem t (ranged t e).size

  pub moment_instant : ◌≡◌ {A = Instant} (record { secs = seconds_of (moment_at t).seconds; nanos = (moment_at t).nanos }) (instant_at t)
  moment_instant = ap₂ (λ (x y : ℕ). record { secs = x; nanos = y }) moment_secs moment_nanos

  -- so it counts the same, and a call takes it
  pub moment_counts : moment_count (moment_at t) ≡ sample_count t
  moment_counts = rw (moment_secs, moment_nanos) (instant_counts t)

  pub moment_taken : taken (moment_at t) ≡ true
  unfolding in_range
  moment_taken =
      let w = instant_within t e in
      simp (
        moment_secs,
        moment_nanos,
        le-leb start1957 (instant_at t).secs (omega (arith, w.low)),
        lt-ltb (instant_at t).secs start2057 (omega (arith, w.high)),
        lt-ltb (instant_at t).nanos 1000000000 w.part,
      )

  -- what the machine makes of the seconds
  pub read_moment : (m : Instant) → m ≡ instant_at t
      → ◌≡◌ {A = Moment} (record { seconds = to_z w64 (of_z w64 (to_z w64 m.secs -ℤ pos start1970)); nanos = m.nanos }) (moment_at t)
  read_moment m same =
      let w : Within 0 m.secs m.nanos = rw same (instant_within t e) in
      let small : m.secs < 2 ^ 63 = omega (arith, w.high) in
      ap₂ (λ (x : ℤ) (y : ℕ). record { seconds = x; nanos = y })
      (
      ap (λ (y : ℤ). to_z w64 (of_z w64 (y -ℤ pos start1970))) (to_z_pos w64 m.secs small)
      ∙ to_z-of_z w64 (sub_ℕ m.secs start1970) (sub_fits m.secs start1970 small (lit< tt))
      ∙ ap (λ (x : Instant). sub_ℕ x.secs start1970) same
      ∙ back_secs t (ranged t e).size
      )
      (ap (λ (x : Instant). x.nanos) same ∙ sym moment_nanos)

-- ---- a moment near the range may be counted with

pub within_sound : (slack s n : ℕ) → slack ≤ 622 → Within slack s n → Sound s n
within_sound slack s n h a = record { low = omega arith; high = omega arith; part = a.part }

pub within_more : {slack more s n : ℕ} → slack ≤ more → Within slack s n → Within more s n
within_more h a = record { low = omega (arith, a.low); high = omega (arith, a.high); part = a.part }
