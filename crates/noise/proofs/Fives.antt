-- The noise of windows of five samples. Assumes nothing.
use mathlib.Core.Path.{◌≡◌, refl, sym, ap, ◌∙◌}
use mathlib.Core.Bool.{Bool, true, false, ◌&&◌}
use mathlib.Core.List.{List, [], ◌∷◌}
use Rattle.std.specs.List.{list_all}
use Prim.Native.Nat.{ℕ, ◌+◌, ◌-◌, ◌≤◌, ◌<◌}
use lib.IntN.{ℤ, pos}
use lib.Ieee.{Float, nan, ne}
use lib.ListN.{length, get_or}
use borrow.Author.Tests.{lt-ltb, le-ltb}
use Rattle.float.specs.Ops.{◌⊕◌, ◌⊗◌, ◌⊘◌, bits, one}
use Rattle.roots.specs.Root.{sqrt_of}
use Rattle.loops.specs.Loop.{for}
use Rattle.moment.specs.Time.{tau_of, nanos_of}
use Rattle.moment.specs.Sample.{time_in_range, instant_at}
use Rattle.moment.specs.declared.Instant.{Instant}
use Rattle.moment.proofs.Samples.{instant_counts}
use Rattle.pass_set.specs.PassSet.{sizes_agree}
use Rattle.noise.specs.Noise.{between_of, seconds_at, products_at, apart_of, weights_of, frequencies_at, difference_of, weight_size, noise_at, with_noise, window_of, windows_of, pass_sums, with_pass, open_sums, estimate_of}
use Rattle.noise.specs.declared.Five.{Five}
use Rattle.noise.specs.declared.Sums.{Sums}

-- ---- between two samples

module _ (u v t e : ℤ) {a : Bool} (p : u ≡ t) (q : v ≡ e) (ea : a ≡ time_in_range u) where
  pub first_out : a ≡ false → nan ≡ between_of t e
  unfolding between_of
  first_out h = let s : time_in_range t ≡ false = ap time_in_range (sym p) ∙ sym ea ∙ h in simp s

  pub second_out : a ≡ true → {b : Bool} → b ≡ time_in_range v → b ≡ false → nan ≡ between_of t e
  unfolding between_of
  second_out h {b} eb k =
      let s : time_in_range t ≡ true = ap time_in_range (sym p) ∙ sym ea ∙ h in
      let r : time_in_range e ≡ false = ap time_in_range (sym q) ∙ sym eb ∙ k in
      simp (s, r)

  pub both_in : a ≡ true → {b : Bool} → b ≡ time_in_range v → b ≡ true → {m n : Instant} {r : Float} → m ≡ instant_at u → n ≡ instant_at v
      → r ≡ tau_of (nanos_of m.secs m.nanos) (nanos_of n.secs n.nanos) → r ≡ between_of t e
  unfolding between_of
  both_in h {b} eb k em en er =
      let s : time_in_range t ≡ true = ap time_in_range (sym p) ∙ sym ea ∙ h in
      let w : time_in_range e ≡ true = ap time_in_range (sym q) ∙ sym eb ∙ k in
      rw (er, em, en, instant_counts u, instant_counts v, p, q, s, w)

module _ (times : List ℤ) (k j : ℕ) where
  pub no_first : length times ≤ k → nan ≡ seconds_at times k j
  unfolding seconds_at
  no_first h = simp (le-ltb k (length times) h)

  pub no_second : k < length times → length times ≤ j → nan ≡ seconds_at times k j
  unfolding seconds_at
  no_second h g = simp (lt-ltb k (length times) h, le-ltb j (length times) g)

  pub in_times : k < length times → j < length times → (u v : ℤ) {r : Float} → u ≡ get_or times k (pos 0) → v ≡ get_or times j (pos 0) → r ≡ between_of u v → r ≡ seconds_at times k j
  unfolding seconds_at
  in_times h g u v p q e = rw (e, p, q, lt-ltb k (length times) h, lt-ltb j (length times) g)

-- ---- a window

last_of : (b : Bool) → (b && true) ≡ b
last_of true = refl
last_of false = refl

-- the library's test of all five
pub apart_all : (p : Five) → list_all (λ x. ne x (bits 0)) (p.a ∷ p.b ∷ p.c ∷ p.d ∷ p.e ∷ []) ≡ apart_of p
unfolding apart_of ne
apart_all p = simp last_of

module _ (times : List ℤ) (freqs : List Float) (k : ℕ) (s : Sums) {p : Five} {a : Bool} (ep : p ≡ products_at times k) (ea : a ≡ apart_of p) where
  pub like : a ≡ false → s ≡ window_of times freqs k s
  unfolding window_of
  like h = let t : apart_of (products_at times k) ≡ false = ap apart_of (sym ep) ∙ sym ea ∙ h in rw t

  pub unlike : a ≡ true → {w f : Five} → w ≡ weights_of p → f ≡ frequencies_at freqs k → {d z : Float} → d ≡ difference_of w f → z ≡ weight_size w
      → record { squares = s.squares ⊕ (d ⊘ z) ⊗ (d ⊘ z); windows = s.windows ⊕ one; at = s.at } ≡ window_of times freqs k s
  unfolding window_of with_noise noise_at
  unlike h ew ef ed ez =
      let t : apart_of (products_at times k) ≡ true = ap apart_of (sym ep) ∙ sym ea ∙ h in
      rw (t, ed, ez, ef, ew, ep)

-- ---- a pass

module _ (times : List ℤ) (freqs : List Float) (n : ℕ) (s : Sums) where
  pub few : n < 5 → record { squares = s.squares; windows = s.windows; at = s.at + n } ≡ pass_sums times freqs n s
  unfolding pass_sums
  few h = rw (lt-ltb n 5 h)

  pub many : 5 ≤ n → {w : Sums} → w ≡ windows_of times freqs s.at (s.at + n - 4) s
      → record { squares = w.squares; windows = w.windows; at = s.at + n } ≡ pass_sums times freqs n s
  unfolding pass_sums
  many h e = rw (le-ltb n 5 h, e)

-- ---- all passes

module _ (counts : List ℕ) (times : List ℤ) (freqs : List Float) {a : Bool} (ea : a ≡ sizes_agree counts (length times) (length freqs) (length counts)) where
  pub disagree : a ≡ false → nan ≡ estimate_of counts times freqs
  unfolding estimate_of
  disagree h = let t = sym ea ∙ h in rw t

  pub agree : a ≡ true → {s : Sums} {r : Float} → s ≡ for 0 (length counts) (with_pass counts times freqs) open_sums → r ≡ sqrt_of (s.squares ⊘ s.windows)
      → r ≡ estimate_of counts times freqs
  unfolding estimate_of
  agree h es er = let t = sym ea ∙ h in rw (t, er, es)
