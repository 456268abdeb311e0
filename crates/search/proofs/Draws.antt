-- The draws of the generator: a step takes 5, a trajectory 75, and start j's generator is the one after the trajectories before it. Assumes nothing.
use Rattle.std.proofs.Common.{◌≡◌, ℕ, zero, suc, ◌+◌, ◌-◌, ◌*◌, ◌/◌, ◌%◌, ◌<◌, ◌≤◌, sym, refl, ap, ◌∙◌, suc-add, zero-add, arith}
use native.Mathlib.Nat.{sub-zero}
use lib.Ieee.{Float}
use Rattle.laws.proofs.Numbers.{sub_step}
use Rattle.loops.specs.Loop.{for}
use Rattle.loops.proofs.Laws.{for_ind}
use Rattle.monna.specs.Rng.{next_state, drawn, draw_of, gaussian_of}
use Rattle.monna.specs.declared.rng.SimpleRng.{SimpleRng}
use Rattle.search.specs.Step.{prime_of, proposal_of, chosen_of, step_of}
use Rattle.search.specs.Search.{grid_of, after_draws, generator_of, opening_of, finished_of, trajectory_of, trajectory_at, found_by, offer_of, better_of, with_start}
use Rattle.search.specs.declared.Trajectory.{Trajectory}
use Rattle.search.specs.declared.Found.{Found}

-- ---- the bases

pub prime_last : (k : ℕ) → (k % 4 ≡ 0 → ⊥) → (k % 4 ≡ 1 → ⊥) → (k % 4 ≡ 2 → ⊥) → 7 ≡ prime_of k
unfolding prime_of
prime_last k a b c = let e : k % 4 ≡ 3 = omega arith in rw e refl

-- ---- the loop that draws

pub record Drawing (n : ℕ) (g t : SimpleRng) : Type 0 where
  pub gives : after_draws n g ≡ t

pub draw_start : (n : ℕ) (g : SimpleRng) → Drawing (n - 0) g (after_draws n g)
draw_start n g = record { gives = rw (sub-zero n) }

pub draw_one : {n i : ℕ} {g h t : SimpleRng} → i < n → h ≡ (draw_of g).rng → Drawing (n - i) g t → Drawing (n - (i + 1)) h t
unfolding after_draws drawn draw_of
draw_one {n = n} {i = i} l e d = record { gives = rw e (rw (sub_step i n l) at d.gives) }

pub all_drawn : {n i : ℕ} {g t : SimpleRng} → n ≤ i → Drawing (n - i) g t → g ≡ t
unfolding after_draws drawn
all_drawn {n = n} {i = i} h d = let z : n - i ≡ 0 = omega arith in rw z at d.gives

-- ---- how many draws a trajectory takes

pub drawn_add : (a b s : ℕ) → drawn (a + b) s ≡ drawn b (drawn a s)
unfolding drawn
drawn_add zero b s = rw (zero-add b)
drawn_add (suc a) b s = rw (suc-add a b) (drawn_add a b (next_state s))

pub step_draws : (sum : Float → Float → Float) (k : ℕ) (w : Trajectory) → (step_of sum k w).rng.state ≡ drawn 5 w.rng.state
unfolding step_of chosen_of proposal_of gaussian_of draw_of drawn
step_draws sum k w = refl

steps_draw : (sum : Float → Float → Float) (w : Trajectory) → (for 0 15 (step_of sum) w).rng.state ≡ drawn (5 * 15) w.rng.state
unfolding drawn
steps_draw sum w =
    for_ind (step_of sum) (λ k u. u.rng.state ≡ drawn (5 * k) w.rng.state) 0 15 w (omega arith) refl
    (λ k u a b e.
    let m : 5 * (k + 1) ≡ 5 * k + 5 = omega arith in
    rw m (step_draws sum k u ∙ ap (drawn 5) e ∙ sym (drawn_add (5 * k) 5 w.rng.state)))

-- a trajectory takes 75 draws
pub trajectory_draws : (sum : Float → Float → Float) (raan u : Float) (g : SimpleRng) → (trajectory_of sum raan u g).rng.state ≡ drawn 75 g.state
unfolding trajectory_of finished_of opening_of
trajectory_draws sum raan u g = steps_draw sum (opening_of raan u g)

-- start j's trajectory leaves the generator of start j + 1
pub start_draws : (sum : Float → Float → Float) (j : ℕ) → (trajectory_at sum j).rng.state ≡ drawn (75 * (j + 1)) 1337
unfolding trajectory_at
start_draws sum j =
    let m : 75 * (j + 1) ≡ 75 * j + 75 = omega arith in
    rw m (trajectory_draws sum _ _ _ ∙ sym (drawn_add (75 * j) 75 1337))

-- ---- what a turn of the search's loop leaves

pub start_is : (sum : Float → Float → Float) (j : ℕ) {w : Trajectory} {a b : Float} {g : SimpleRng}
    → a ≡ grid_of (j / 12) → b ≡ grid_of (j % 12) → g ≡ generator_of j → w ≡ trajectory_of sum a b g → w ≡ trajectory_at sum j
unfolding trajectory_at
start_is sum j ea eb eg e = rw (e, ea, eb, eg)

pub next_rng : (sum : Float → Float → Float) (j : ℕ) {w : Trajectory} → w ≡ trajectory_at sum j → w.rng ≡ generator_of (j + 1)
next_rng sum j e = rw e (ap (λ s. record { state = s }) (start_draws sum j))

pub next_best : (sum : Float → Float → Float) (j : ℕ) (best : Found) {w : Trajectory} {r : Found} → w ≡ trajectory_at sum j → r ≡ better_of best (found_by j w.best) → r ≡ with_start sum j best
unfolding with_start offer_of
next_best sum j best e f = rw (f, e)

pub advanced : (first : ℕ) {g h : SimpleRng} → g.state ≡ 1337 → h ≡ after_draws (first * 75) g → h ≡ generator_of first
unfolding after_draws
advanced first e f = let m : first * 75 ≡ 75 * first = omega arith in rw (f, e, m)
