-- One step of a trajectory, as the reference has it, for any sum of the two angles: a step against the gradient's signs with
-- Gaussian noise (Langevin), and a try elsewhere by digits scrambled in base 2, 3, 5 or 7, taken where it has the smaller sum,
-- each with a hundredth of its history's variation.
use Rattle.std.specs.Prelude.{ℕ, zero, suc, ◌+◌, ◌%◌, ◌^◌, cond, List, length, take, slice_set, Float}
use Rattle.std.specs.Float.Ieee.{to_unsigned, lt, ne, neg}
use Rattle.float.specs.Constant.{decimal}
use Rattle.float.specs.Ops.{◌⊕◌, ◌⊖◌, ◌⊗◌, ◌⊘◌, bits, one, two, abs_of, signum_of, rem_euclid_of, raised, of_nat}
use Rattle.loops.specs.Loop.{for}
use Rattle.float.specs.Trig.{pi}
use Rattle.monna.specs.Rng.{draw_of, gaussian_of}
use Rattle.monna.specs.Digits.{monna_of, inverse_of}
use Rattle.monna.specs.History.{difference_at}
use Rattle.approach.specs.Sums.{eps}
use Rattle.search.specs.declared.Angles.{Angles}
use Rattle.search.specs.declared.Best.{Best}
use Rattle.search.specs.declared.Signs.{Signs}
use Rattle.search.specs.declared.Trajectory.{Trajectory}
use Rattle.search.specs.declared.Proposal.{Proposal}

-- ---- the regularized sum: 0.01 of the sizes of the history's differences, summed in their order

unfoldable pub size_added : List Float → ℕ → Float → Float
size_added x i s = s ⊕ abs_of (difference_at x i)

unfoldable pub variation_of : List Float → Float
variation_of x = for 0 (length x) (size_added x) (bits 0)

unfoldable pub regularized_of : List Float → Float → Float
regularized_of x rss = rss ⊕ decimal 1 2 ⊗ variation_of x

-- ---- the gradient's signs: differences at 1e-4, which are the reference's gradient (`slopes` of proofs/Gradient.antt)

unfoldable pub slope_raan : (Float → Float → Float) → Float → Float → Float
slope_raan sum raan u = (sum (raan ⊕ eps) u ⊖ sum raan u) ⊘ eps

unfoldable pub slope_u : (Float → Float → Float) → Float → Float → Float
slope_u sum raan u = (sum raan (u ⊕ eps) ⊖ sum raan u) ⊘ eps

-- 0.0 for NaN
unfoldable pub sign_of : Float → Float
sign_of g = cond (ne g g) (bits 0) (signum_of g)

unfoldable pub signs_of : (Float → Float → Float) → Float → Float → Signs
signs_of sum raan u = record { raan0 = sign_of (slope_raan sum raan u); u0 = sign_of (slope_u sum raan u) }

-- ---- the step

-- 2.0×π
abbrev pub turn : Float
turn = two ⊗ pi

-- −lr×sign×0.2 + noise×gaussian×0.05 further, modulo one turn
unfoldable pub moved_angle : Float → Float → Float → Float → Float → Float
moved_angle angle sign lr noise gaussian =
    rem_euclid_of (angle ⊕ (neg lr ⊗ sign ⊗ decimal 2 1 ⊕ noise ⊗ gaussian ⊗ decimal 5 2)) turn

-- two Gaussian numbers, of two draws each, and a uniform one: 5 draws
unfoldable pub proposal_of : Trajectory → Signs → Proposal
proposal_of w s =
    let a = gaussian_of w.rng in
    let b = gaussian_of a.rng in
    let d = draw_of b.rng in
    record {
      raan0 = moved_angle w.raan0 s.raan0 w.lr w.noise_std a.value;
      u0 = moved_angle w.u0 s.u0 w.lr w.noise_std b.value;
      uniform = d.value;
      rng = d.rng;
    }

-- ---- the scrambling

-- 2, 3, 5 and 7 in turn
abbrev pub prime_at : ℕ → ℕ
prime_at zero = 2
prime_at (suc zero) = 3
prime_at (suc (suc zero)) = 5
prime_at (suc (suc (suc k))) = 7

unfoldable pub prime_of : ℕ → ℕ
prime_of k = prime_at (k % 4)

-- a draw times p^4, cut
unfoldable pub perturbation_of : Float → ℕ → ℕ
perturbation_of uniform p = to_unsigned 64 (uniform ⊗ raised (of_nat p) 4 one)

unfoldable pub scrambled_of : Float → ℕ → ℕ → Float
scrambled_of angle p n = rem_euclid_of (monna_of ((inverse_of (angle ⊘ turn) p 16 + n) % 2 ^ 64) p ⊗ two ⊗ pi) turn

-- both angles in step k's base, by one draw
unfoldable pub scramble_of : ℕ → Proposal → Angles
scramble_of k next =
    let n = perturbation_of next.uniform (prime_of k) in
    record { raan0 = scrambled_of next.raan0 (prime_of k) n; u0 = scrambled_of next.u0 (prime_of k) n }

-- ---- the whole step

-- the angles where their sum is below the best one
unfoldable pub kept_of : Best → Float → Float → Float → Best
kept_of b raan u rss = cond (lt rss b.rss) (record { raan0 = raan; u0 = u; rss = rss }) b

-- The sum rss goes to place k of the history. The scrambled angles are taken, and their sum put there instead, where their
-- regularized sum is below.
unfoldable pub chosen_of : (k : ℕ) (w : Trajectory) (rss : Float) (next : Proposal) (other : Angles) (otherRss : Float) → Trajectory
chosen_of k w rss next other otherRss =
    let history = slice_set w.history k rss in
    let changed = slice_set history k otherRss in
    let taken = lt (regularized_of (take (k + 1) changed) otherRss) (regularized_of (take (k + 1) history) rss) in
    record {
      raan0 = cond taken other.raan0 next.raan0;
      u0 = cond taken other.u0 next.u0;
      best = kept_of w.best w.raan0 w.u0 rss;
      lr = w.lr ⊗ decimal 95 2;
      noise_std = w.noise_std ⊗ decimal 9 1;
      rng = next.rng;
      history = cond taken changed history;
    }

-- step k, which has k sums behind it
unfoldable pub step_of : (Float → Float → Float) → ℕ → Trajectory → Trajectory
step_of sum k w =
    let next = proposal_of w (signs_of sum w.raan0 w.u0) in
    let other = scramble_of k next in
    chosen_of k w (sum w.raan0 w.u0) next other (sum other.raan0 other.u0)
