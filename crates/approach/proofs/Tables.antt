-- Tables of rotations: what an entry says, what no table asks, and a pass's part of a set's table. Assumes nothing.
use mathlib.Core.Path.{◌≡◌, sym, ap₂}
use mathlib.Core.List.{List}
use Prim.Native.Nat.{ℕ, ◌+◌, ◌*◌, ◌≤◌, ◌<◌}
use native.Mathlib.Omega.{arith}
use lib.IntN.{ℤ, pos}
use lib.ListN.{length, get_or}
use lib.Ieee.{Float, nan}
use Rattle.std.proofs.Common.{Option, None}
use Rattle.float.specs.declared.trig.SinCos.{SinCos}
use Rattle.frame.specs.Rotation.{turn_at}
use Rattle.moment.specs.declared.Instant.{Instant}
use Rattle.moment.specs.Sample.{instant_at}
use Rattle.pass_set.specs.PassSet.{count_of, start_of, pass_of, total, AtPass, SoundSet}
use Rattle.pass_set.proofs.Laws.{start_fits, pass_length, pass_at}
use Rattle.approach.specs.Turns.{entries, Entry, Held, Window, window, Windowed, Sampled, Tabled}
use Rattle.approach.specs.Pca.{obs_pca_time}

pub read : {table : List Float} {j secs nanos : ℕ} → Entry table j secs nanos
    → ◌≡◌ {A = SinCos} (record { sin = get_or table (2 * j) nan; cos = get_or table (2 * j + 1) nan }) (turn_at secs nanos)
read h = ap₂ (λ (x y : Float). record { sin = x; cos = y }) h.sine h.cosine

-- ---- no table

no_entry : (j secs nanos : ℕ) → Held None j secs nanos
no_entry j secs nanos = record { entry = λ t h. absurd cc }

no_windowed : (at : ℕ) (center : Float) (times : List ℤ) (freqs : List Float) → at ≤ 100000 → Windowed None at center times freqs
no_windowed at center times freqs h = record { seen = λ _. record { small = h; each = λ j _. no_entry _ _ _ } }

pub no_window : (center : Float) (times : List ℤ) (freqs : List Float) → Windowed None 0 center times freqs
no_window center times freqs = no_windowed 0 center times freqs (omega arith)

pub no_table : (first : Float) (counts : List ℕ) (times : List ℤ) (freqs : List Float) → length counts ≤ 16 → Tabled None first counts times freqs
no_table first counts times freqs few =
    record {
      windows = λ p h. no_windowed (entries * p) first (pass_of counts p times) (pass_of counts p freqs) (omega (arith, h, few));
      samples = record { small = omega (arith, few); each = λ j _. no_entry _ _ _ };
    }

-- ---- pass p's samples

held_at : (table : Option (List Float)) (i j : ℕ) (t u : ℤ) → i ≡ j → t ≡ u → Held table i (instant_at t).secs (instant_at t).nanos → Held table j (instant_at u).secs (instant_at u).nanos
held_at table i j t u p q h = rw (← p, ← q) h

pub pass_sampled : (table : Option (List Float)) (first : Float) (counts : List ℕ) (times : List ℤ) (freqs centers : List Float) (p k : ℕ)
    → SoundSet counts times freqs centers → p < length counts → AtPass counts p k → Tabled table first counts times freqs → Sampled table (entries * length counts + k) (pass_of counts p times)
pass_sampled table first counts times freqs centers p k s h a t =
    let whole : total counts ≡ length times = s.sizes.whole in
    let few : length counts ≤ 16 = s.sizes.few in
    let small : length times ≤ 4096 = s.sizes.small in
    let n = pass_length counts p times h (omega arith) in
    let f = start_fits counts p h in
    let b = a.begins in
    record {
      small = omega arith;
      each = λ j l.
          let i : j < count_of counts p = omega arith in
          let same : entries * length counts + (start_of counts p + j) ≡ entries * length counts + k + j = omega arith in
          held_at table (entries * length counts + (start_of counts p + j)) (entries * length counts + k + j) (get_or times (start_of counts p + j) (pos 0)) (get_or (pass_of counts p times) j (pos 0))
          same (sym (pass_at counts p j times (pos 0) i)) (t.samples.each (start_of counts p + j) (omega arith));
    }

-- a sample's entry, by its moment
pub held_moment : {table : Option (List Float)} {j : ℕ} (t : ℤ) {m : Instant} → m ≡ instant_at t → Held table j (instant_at t).secs (instant_at t).nanos → Held table j m.secs m.nanos
held_moment t e h = rw e h

-- a pass's window, by its observed moment
pub window_at : {table : Option (List Float)} {at : ℕ} {center : Float} {times : List ℤ} {freqs : List Float} {m : Instant} → m ≡ obs_pca_time times freqs center → (length freqs ≡ 0 → ⊥)
    → Windowed table at center times freqs → Window table at (window m) m.nanos
window_at e n w = rw e (w.seen (omega (arith, n)))

-- a pass's parts of its set's table
pub pass_windowed : {table : Option (List Float)} {at : ℕ} {first : Float} (counts : List ℕ) (times : List ℤ) (freqs : List Float) {t : List ℤ} {f : List Float} (p : ℕ)
    → t ≡ pass_of counts p times → f ≡ pass_of counts p freqs → Windowed table at first (pass_of counts p times) (pass_of counts p freqs) → Windowed table at first t f
pass_windowed counts times freqs p a b w = rw (a, b) w

pub part_sampled : {table : Option (List Float)} {at : ℕ} (counts : List ℕ) (times : List ℤ) {t : List ℤ} (p : ℕ) → t ≡ pass_of counts p times
    → Sampled table at (pass_of counts p times) → Sampled table at t
part_sampled counts times p a w = rw a w
