-- Filling a table of rotations. Assumes nothing.
use mathlib.Core.Path.{◌≡◌, refl, sym, ◌∙◌}
use mathlib.Core.Logic.{◌⊎◌, inl, inr}
use mathlib.Core.List.{List}
use Prim.Native.Nat.{ℕ, ◌+◌, ◌*◌, ◌≤◌, ◌<◌}
use native.Mathlib.Nat.{eq-or-lt_of_le}
use native.Mathlib.Omega.{arith}
use lib.IntN.{ℤ}
use lib.ListN.{length, get_or, set, length-set}
use lib.Seq.{get_or-set_same, get_or-set_other}
use lib.Ieee.{Float, nan}
use Rattle.std.proofs.Common.{Some}
use Rattle.moment.specs.declared.Instant.{Instant}
use Rattle.frame.specs.Rotation.{turn_at}
use Rattle.float.specs.declared.trig.SinCos.{SinCos}
use Rattle.pass_set.specs.PassSet.{pass_of, total, SoundSet}
use Rattle.pass_set.proofs.Laws.{start_zero, start_last}
use Rattle.approach.specs.Pca.{obs_pca_time}
use Rattle.approach.specs.Turns.{entries, Entry, Held, Window, window, Windowed, Tabled, put_turn, Kept, Entered, window_moment, moments, PassWritten, SetWritten}

-- ---- one entry

pub put_is : (table : List Float) (j secs nanos : ℕ) (turn : SinCos) → turn ≡ turn_at secs nanos → set (set table (2 * j) turn.sin) (2 * j + 1) turn.cos ≡ put_turn table j secs nanos
unfolding put_turn
put_is table j secs nanos turn e = rw e

put_length : (table : List Float) (j secs nanos : ℕ) → length (put_turn table j secs nanos) ≡ length table
unfolding put_turn
put_length table j secs nanos = simp length-set

put_entry_lem : (table : List Float) (j secs nanos : ℕ) → 2 * j + 1 < length table → Entry (put_turn table j secs nanos) j secs nanos
unfolding put_turn
put_entry_lem table j secs nanos h =
    let sine = (turn_at secs nanos).sin in
    let cosine = (turn_at secs nanos).cos in
    let more : 2 * j + 1 < length (set table (2 * j) sine) = simp length-set (omega arith) in
    record {
      room = simp length-set (omega arith);
      sine = get_or-set_other (set table (2 * j) sine) (2 * j + 1) (2 * j) cosine nan (λ e. omega (arith, e)) ∙ get_or-set_same table (2 * j) sine nan (omega arith);
      cosine = get_or-set_same (set table (2 * j) sine) (2 * j + 1) cosine nan more;
    }

put_below : (table : List Float) (j secs nanos m : ℕ) → m < 2 * j → get_or (put_turn table j secs nanos) m nan ≡ get_or table m nan
unfolding put_turn
put_below table j secs nanos m h =
    let sine = (turn_at secs nanos).sin in
    let cosine = (turn_at secs nanos).cos in
    get_or-set_other (set table (2 * j) sine) (2 * j + 1) m cosine nan (λ e. omega (arith, e)) ∙ get_or-set_other table (2 * j) m sine nan (λ e. omega (arith, e))

-- ---- what is kept

pub kept_none : (at : ℕ) (table : List Float) → Kept at table table
kept_none at table = record { same = refl; below = λ m h. refl }

kept_then : {at more : ℕ} {a b c : List Float} → at ≤ more → Kept at a b → Kept more b c → Kept at a c
kept_then h p q = record { same = q.same ∙ p.same; below = λ m l. q.below m (omega (arith, h, l)) ∙ p.below m l }

put_kept : (table : List Float) (j secs nanos : ℕ) → Kept j table (put_turn table j secs nanos)
put_kept table j secs nanos = record { same = put_length table j secs nanos; below = λ m h. put_below table j secs nanos m h }

keep_entry : {at j secs nanos : ℕ} {old new : List Float} → Kept at old new → j < at → Entry old j secs nanos → Entry new j secs nanos
keep_entry {at} {j} k h e =
    record { room = rw k.same e.room; sine = k.below (2 * j) (omega arith) ∙ e.sine; cosine = k.below (2 * j + 1) (omega arith) ∙ e.cosine }

held : {j secs nanos : ℕ} {table : List Float} → Entry table j secs nanos → Held (Some table) j secs nanos
held {table = table} h = record { entry = λ t e. let q : table ≡ t = cc in rw q at h }

keep_held : {at j secs nanos : ℕ} {old new : List Float} → Kept at old new → j < at → Held (Some old) j secs nanos → Held (Some new) j secs nanos
keep_held {old = old} k h e = held (keep_entry k h (e.entry old refl))

pub keep_windowed : {at more : ℕ} {center : Float} {times : List ℤ} {freqs old new : List Float} → Kept more old new → at + entries ≤ more
    → Windowed (Some old) at center times freqs → Windowed (Some new) at center times freqs
keep_windowed k h w = record { seen = λ some. record { small = (w.seen some).small; each = λ j l. keep_held k (omega (arith, h, l)) ((w.seen some).each j l) } }

-- ---- a loop's entries

module _ (t : ℕ → Instant) (at : ℕ) where
  pub written_none : (table : List Float) → Entered t at 0 table table
  written_none table = record { kept = kept_none at table; each = λ j h. absurd (omega (arith, h)) }

  entry_at : {n j : ℕ} {table : List Float} → n ≡ j → Entry table (at + n) (t n).secs (t n).nanos → Entry table (at + j) (t j).secs (t j).nanos
  entry_at {n} {j} {table} e h = rw (← e) h

  each_more : (n j : ℕ) (old new : List Float) → 2 * (at + n) + 1 < length new → Entered t at n old new → (j ≡ n) ⊎ (j < n)
      → Entry (put_turn new (at + n) (t n).secs (t n).nanos) (at + j) (t j).secs (t j).nanos
  each_more n j old new h w (inl e) = entry_at (sym e) (put_entry_lem new (at + n) (t n).secs (t n).nanos h)
  each_more n j old new h w (inr l) = keep_entry (put_kept new (at + n) (t n).secs (t n).nanos) (omega (arith, l)) (w.each j l)

  pub written_more : (n : ℕ) (old new next : List Float) → 2 * (at + n) + 1 < length new → Entered t at n old new → next ≡ put_turn new (at + n) (t n).secs (t n).nanos
      → Entered t at (n + 1) old next
  written_more n old new next h w e =
      rw e
      record {
        kept = kept_then (omega arith) w.kept (put_kept new (at + n) (t n).secs (t n).nanos);
        each = λ j l. let m : j ≤ n = omega arith in each_more n j old new h w (eq-or-lt_of_le m);
      }

-- ---- one pass, and a set

pub pass_none : (at : ℕ) (center : Float) (times : List ℤ) (freqs table : List Float) → length freqs ≡ 0 → PassWritten at center times freqs table table
pass_none at center times freqs table e = record { kept = kept_none at table; windowed = record { seen = λ h. absurd (omega (arith, h, e)) } }

seconds_window : (at : ℕ) (m : Instant) (old new : List Float) → at ≤ 100000 → Entered (window_moment m) at entries old new → Window (Some new) at (window m) m.nanos
seconds_window at m old new h w = record { small = h; each = λ j l. held (w.each j l) }

pub pass_filled : (at : ℕ) (center : Float) (times : List ℤ) (freqs old new : List Float) (m : Instant) → m ≡ obs_pca_time times freqs center → at ≤ 100000
    → Entered (window_moment m) at entries old new → PassWritten at center times freqs old new
pass_filled at center times freqs old new m e h w = record { kept = w.kept; windowed = record { seen = λ _. rw (← e) (seconds_window at m old new h w) } }

-- of pass p
pub pass_written : {at : ℕ} {center : Float} (counts : List ℕ) (times : List ℤ) (freqs : List Float) {t : List ℤ} {f old new : List Float} (p : ℕ)
    → t ≡ pass_of counts p times → f ≡ pass_of counts p freqs → PassWritten at center t f old new → PassWritten at center (pass_of counts p times) (pass_of counts p freqs) old new
pass_written counts times freqs p a b w = rw (a, b) at w

-- the windows of the first passes
pub record Windows (table : List Float) (first : Float) (counts : List ℕ) (times : List ℤ) (freqs : List Float) (p : ℕ) : Type 0 where
  pub each : (q : ℕ) → q < p → Windowed (Some table) (entries * q) first (pass_of counts q times) (pass_of counts q freqs)

module _ (first : Float) (counts : List ℕ) (times : List ℤ) (freqs : List Float) where
  pub windows_none : (table : List Float) → Windows table first counts times freqs 0
  windows_none table = record { each = λ q h. absurd (omega (arith, h)) }

  window_more : (p q : ℕ) (old new : List Float) → PassWritten (entries * p) first (pass_of counts p times) (pass_of counts p freqs) old new → Windows old first counts times freqs p
      → (q ≡ p) ⊎ (q < p) → Windowed (Some new) (entries * q) first (pass_of counts q times) (pass_of counts q freqs)
  window_more p q old new w a (inl e) = rw e w.windowed
  window_more p q old new w a (inr l) = keep_windowed w.kept (omega (arith, l)) (a.each q l)

  pub windows_more : (p : ℕ) (old new : List Float) → PassWritten (entries * p) first (pass_of counts p times) (pass_of counts p freqs) old new → Windows old first counts times freqs p
      → Windows new first counts times freqs (p + 1)
  windows_more p old new w a = record { each = λ q h. let m : q ≤ p = omega arith in window_more p q old new w a (eq-or-lt_of_le m) }

  pub tabled : (old new : List Float) → length counts ≤ 16 → Windows old first counts times freqs (length counts) → Entered (moments times) (entries * length counts) (length times) old new
      → Tabled (Some new) first counts times freqs
  tabled old new few a w =
      record {
        windows = λ p h. keep_windowed w.kept (omega (arith, h)) (a.each p h);
        samples = record { small = omega arith; each = λ j l. held (w.each j l) };
      }

no_samples : (counts : List ℕ) → length counts ≡ 0 → total counts ≡ 0
no_samples counts e = sym (start_last counts 0 (omega (arith, e))) ∙ start_zero counts

pub set_none : (counts : List ℕ) (times : List ℤ) (freqs centers table : List Float) → length counts ≡ 0 → SoundSet counts times freqs centers → SetWritten counts times freqs centers table table
set_none counts times freqs centers table e s =
    let z = no_samples counts e in
    let whole : total counts ≡ length times = s.sizes.whole in
    record {
      same = refl;
      tabled = record {
        windows = λ p h. absurd (omega (arith, h, e));
        samples = record { small = omega arith; each = λ j l. absurd (omega (arith, l, z, whole)) };
      };
    }
