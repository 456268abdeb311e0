-- What the refusal lists say. Assumes nothing.
use mathlib.Core.Path.{◌≡◌, ap, ◌∙◌}
use mathlib.Core.List.{List, [], ◌∷◌}
use Prim.Native.Nat.{ℕ, ◌≤◌, ◌<◌}
use borrow.Author.Tests.{lt-ltb, le-ltb}
use lib.Dec.{ltb}
use lib.IntN.{ℤ}
use lib.ListN.{length}
use lib.Ieee.{Float}
use Rattle.std.proofs.Common.{Some, None, Ok, Err}
use Rattle.refusal.specs.Refusals.{Check, ◌when◌, first_of}
use Rattle.refusal.specs.declared.Refusal.{Refusal}
use Rattle.refusal.proofs.Lists.{before, after}
use Rattle.refusal.specs.declared.Refusal.TheVariants.{ShortMemory}
use Rattle.moment.specs.declared.Moment.{Moment}
use Rattle.moment.specs.declared.Instant.{Instant}
use Rattle.moment.specs.Range.{given_of}
use Rattle.moment.proofs.Ranges.{at_is, outside}
use Rattle.moment.proofs.Samples.{both}
use Rattle.frame.specs.declared.Vec3.{Vec3}
use Rattle.orbit.specs.declared.doppler.Station.{Station}
use Rattle.orbit.specs.Doppler.{station_at}
use Rattle.approach.specs.Answers.{set_refusals, set_refusal_of, sum_refusal, pca_refusal_of}

module _ (epoch : Moment) (counts : List ℕ) (times : List ℤ) (freqs centers : List Float) where
  pub epoch_out : (x : Refusal) → Err x ≡ given_of epoch.seconds epoch.nanos → sum_refusal epoch counts times freqs centers ≡ Some x
  unfolding sum_refusal
  epoch_out x h = let o = outside epoch.seconds epoch.nanos x h in simp (o.0, o.1)

  pub pca_epoch_out : (room : ℕ) (x : Refusal) → Err x ≡ given_of epoch.seconds epoch.nanos → pca_refusal_of epoch counts times freqs centers room ≡ Some x
  unfolding pca_refusal_of
  pca_epoch_out room x h = let o = outside epoch.seconds epoch.nanos x h in simp (o.0, o.1)

  module _ (i : Instant) (g : Ok i ≡ given_of epoch.seconds epoch.nanos) where
    epoch_in : sum_refusal epoch counts times freqs centers ≡ set_refusal_of counts times freqs centers
    unfolding sum_refusal set_refusal_of
    epoch_in = simp (at_is epoch.seconds epoch.nanos i g).yes

    pub set_out : (x : Refusal) → set_refusal_of counts times freqs centers ≡ Some x → sum_refusal epoch counts times freqs centers ≡ Some x
    set_out x h = epoch_in ∙ h

    pub set_in : set_refusal_of counts times freqs centers ≡ None → sum_refusal epoch counts times freqs centers ≡ None
    set_in h = epoch_in ∙ h

    -- the tests of the room
    abbrev room_last : (room : ℕ) → List Check
    room_last room = (ShortMemory when ltb room (length counts)) ∷ []

    pub pca_set_out : (room : ℕ) (x : Refusal) → set_refusal_of counts times freqs centers ≡ Some x → pca_refusal_of epoch counts times freqs centers room ≡ Some x
    unfolding set_refusal_of pca_refusal_of
    pca_set_out room x h = simp (at_is epoch.seconds epoch.nanos i g).yes (before (set_refusals counts times freqs centers []) (room_last room) x h)

    module _ (h : set_refusal_of counts times freqs centers ≡ None) where
      pca_in : (room : ℕ) → pca_refusal_of epoch counts times freqs centers room ≡ first_of (room_last room)
      unfolding set_refusal_of pca_refusal_of
      pca_in room = simp (at_is epoch.seconds epoch.nanos i g).yes (after (set_refusals counts times freqs centers []) (room_last room) h)

      pub pca_short : (room : ℕ) → room < length counts → pca_refusal_of epoch counts times freqs centers room ≡ Some ShortMemory
      pca_short room l = pca_in room ∙ rw (lt-ltb room (length counts) l)

      pub pca_found : (room : ℕ) → length counts ≤ room → pca_refusal_of epoch counts times freqs centers room ≡ None
      pca_found room l = pca_in room ∙ rw (le-ltb room (length counts) l)

-- the station as the inner functions have it
pub station_is : (epoch : Moment) (centre : Float) (p : Vec3) (i : Instant) → Ok i ≡ given_of epoch.seconds epoch.nanos
    → ◌≡◌ {A = Station} (record { epoch = i; center_freq = centre; rec_ecef = p }) (station_at epoch centre p)
station_is epoch centre p i g =
    let x = at_is epoch.seconds epoch.nanos i g in
    ap (λ (t : Instant). record { epoch = t; center_freq = centre; rec_ecef = p }) (both x.secs_is x.nanos_is)
