-- The search's stages: each moment is in reach, and so is the best. Assumes nothing.
use mathlib.Core.Path.{◌≡◌, ap, ◌∙◌}
use mathlib.Core.Bool.{Bool, true, false, cond}
use Prim.Native.Nat.{ℕ, suc, ◌+◌, ◌-◌, ◌*◌, ◌≤◌, ◌<◌}
use native.Mathlib.Nat.{mul-le-mul_left, mul-suc}
use native.Mathlib.Omega.{arith}
use mathlib.Core.List.{List}
use lib.Ieee.{Float, lt}
use Rattle.std.proofs.Common.{Option}
use Rattle.float.specs.declared.trig.SinCos.{SinCos}
use Rattle.moment.specs.Time.{nanos_of, tau_of}
use Rattle.moment.specs.Range.{Within}
use Rattle.frame.specs.declared.State.{State}
use Rattle.frame.specs.Rotation.{turn_at}
use Rattle.orbit.specs.declared.Elements.{Elements}
use Rattle.orbit.specs.declared.doppler.Station.{Station}
use Rattle.orbit.specs.declared.doppler.Sight.{Sight}
use Rattle.orbit.specs.Orbit.{rates_of, propagated_of}
use Rattle.orbit.specs.Doppler.{epoch_count}
use Rattle.orbit.proofs.Hoisted.{propagated_at}
use Rattle.approach.specs.declared.Closest.{Closest}
use Rattle.approach.specs.declared.Stage.{Stage}
use Rattle.approach.specs.Pca.{square_of, square_at, closer_of}
use Rattle.approach.specs.Turns.{reach, Around, Beside, Held, Window}

-- ---- one moment

module _ (v : Sight) (secs nanos : ℕ) (s : Closest) (turn : SinCos) (tau : Float) (st : State) (d : Float) (own : v.k ≡ rates_of v.e)
    (h : turn ≡ turn_at secs nanos) (g : tau ≡ tau_of (nanos_of secs nanos) (epoch_count v.station)) (p : st ≡ propagated_of v.e v.k tau turn) (q : d ≡ square_of st v.station.rec_ecef) where
  square_is : d ≡ square_at v.station v.e secs nanos
  unfolding square_at
  square_is = rw (← g, ← h) (q ∙ ap (λ (x : State). square_of x v.station.rec_ecef) (propagated_at v.e v.k tau turn st own p))

  pub closer_taken : lt d s.dist ≡ true → ◌≡◌ {A = Closest} (record { dist = d; secs = secs }) (closer_of v.station v.e nanos secs s)
  unfolding closer_of
  closer_taken l = simp (← square_is, l)

  pub closer_left : lt d s.dist ≡ false → s ≡ closer_of v.station v.e nanos secs s
  unfolding closer_of
  closer_left l = simp (← square_is, l)

-- ---- the moments of a stage

-- moment m of n is at most 2 * half after the first
last : (half step n m : ℕ) → m < n → step * n ≤ 2 * half + step → step * m ≤ 2 * half
last half step n m h l =
    let g : step * suc m ≤ step * n = mul-le-mul_left step h in
    omega (arith, mul-suc step m)

-- its seconds: in the window
pub record Inside (base half secs x : ℕ) : Type 0 where
  pub low : base ≤ x
  pub high : x ≤ base + 2 * reach
  pub near : Beside half secs x

pub inside : (base : ℕ) (w : Stage) (secs nanos m : ℕ) → Around base w secs nanos → m < w.n → Inside base w.half secs (secs - w.half + w.step * m)
inside base w secs nanos m a h =
    let r = last w.half w.step w.n m h a.spans in
    record { low = omega arith; high = omega arith; near = record { low = omega arith; high = omega arith } }

pub inside_within : {base : ℕ} {w : Stage} {secs nanos : ℕ} (x : ℕ) → Around base w secs nanos → Inside base w.half secs x → Within reach x nanos
inside_within x a i = record { low = omega arith; high = omega arith; part = a.part }

-- its entry
pub inside_held : {table : Option (List Float)} {at base half nanos secs : ℕ} (x : ℕ) → Window table at base nanos → Inside base half secs x → Held table (at + (x - base)) x nanos
inside_held {table} {at} {base} {half} {nanos} {secs} x w i =
    let e : base + (x - base) ≡ x = omega arith in
    rw e at (w.each (x - base) (omega arith))

beside_pick : (b : Bool) (half mid secs : ℕ) (d : Float) (s : Closest) → Beside half mid secs → Beside half mid s.secs
    → Beside half mid (cond b (record { dist = d; secs = secs }) s).secs
beside_pick true half mid secs d s p q = p
beside_pick false half mid secs d s p q = q

pub beside_closer : (g : Station) (e : Elements) (nanos half mid secs : ℕ) (s : Closest) {r : Closest} → Beside half mid secs → Beside half mid s.secs
    → r ≡ closer_of g e nanos secs s → Beside half mid r.secs
unfolding closer_of
beside_closer g e nanos half mid secs s p q h = rw h (beside_pick (lt (square_at g e secs nanos) s.dist) half mid secs _ s p q)
