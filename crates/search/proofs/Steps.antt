-- A step's end from its parts: what each call gives, and which way the last test went. Assumes nothing.
use Rattle.std.proofs.Common.{◌≡◌, ℕ, ◌+◌, Bool, cond, take, set}
use lib.Ieee.{Float, lt, of_bits, round}
use Rattle.float.specs.Ops.{◌⊗◌, bits}
use Rattle.search.specs.Step.{regularized_of, kept_of, chosen_of}
use Rattle.search.specs.declared.Angles.{Angles}
use Rattle.search.specs.declared.Best.{Best}
use Rattle.search.specs.declared.Trajectory.{Trajectory}
use Rattle.search.specs.declared.Proposal.{Proposal}

pub chosen_law : (k : ℕ) (w : Trajectory) (rss : Float) (next : Proposal) (other : Angles) (otherRss : Float) {best : Best} {current changed : Float} {t : Bool}
    → current ≡ regularized_of (take (k + 1) (set w.history k rss)) rss
    → changed ≡ regularized_of (take (k + 1) (set (set w.history k rss) k otherRss)) otherRss
    → best ≡ kept_of w.best w.raan0 w.u0 rss
    → lt changed current ≡ t
    → ◌≡◌ {A = Trajectory} (record {
      raan0 = cond t other.raan0 next.raan0;
      u0 = cond t other.u0 next.u0;
      best = best;
      lr = w.lr ⊗ bits 0x3fee666666666666;
      noise_std = w.noise_std ⊗ bits 0x3feccccccccccccd;
      rng = next.rng;
      history = cond t (set (set w.history k rss) k otherRss) (set w.history k rss);
    }) (chosen_of k w rss next other otherRss)
unfolding chosen_of of_bits round
chosen_law k w rss next other otherRss e-current e-changed e-best e-t = rw (← e-t, e-changed, e-current, e-best)
