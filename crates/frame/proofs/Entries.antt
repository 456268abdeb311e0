-- The ways out of `datetime_to_jd`. Assumes nothing.
use Rattle.std.proofs.Common.{◌≡◌, Ok, Err, ap}
use lib.Ieee.{Float}
use Rattle.refusal.specs.declared.Refusal.{Refusal}
use Rattle.moment.specs.Range.{given_of}
use Rattle.moment.specs.declared.Moment.{Moment}
use Rattle.moment.specs.declared.Instant.{Instant}
use Rattle.moment.proofs.Ranges.{at_is, outside}
use Rattle.frame.specs.Julian.{jd_at, datetime_to_jd_of}

pub out : (m : Moment) (e : Refusal) → Err e ≡ given_of m.seconds m.nanos → Err e ≡ datetime_to_jd_of m
unfolding datetime_to_jd_of
out m e h = let x = outside m.seconds m.nanos e h in simp (x.0, x.1)

pub taken_at : (m : Moment) (i : Instant) (r : Float) → Ok i ≡ given_of m.seconds m.nanos → r ≡ jd_at i.secs i.nanos → Ok r ≡ datetime_to_jd_of m
unfolding datetime_to_jd_of
taken_at m i r h q =
    let x = at_is m.seconds m.nanos i h in
    simp x.yes (ap Ok (simp (x.secs_is, x.nanos_is) at q))
