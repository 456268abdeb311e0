use mathlib.Core.Path.{◌≡◌}
use Prim.Native.Nat.{ℕ, ◌-◌, ◌/◌, ◌%◌}
use lib.Ieee.{Float}
use Rattle.float.specs.Ops.{◌⊕◌, of_nat}
use Rattle.moment.specs.Origin.{march1956}
use Rattle.moment.specs.Calendar.{date_of, ordinal_of}
use Rattle.moment.specs.declared.calendar.Date.{Date}
use Rattle.tle.specs.Elements.{epoch_fraction, epoch_at}
use Rattle.tle.specs.declared.elements.Epoch.{Epoch}
use Rattle.tle.proofs.Dates.{in_year}
use Rattle.tle.proofs.elements.epoch_of.Goals as goal

made : (secs nanos : ℕ) (d : Date) (o : ℕ) (f : Float) → let s = secs - march1956 in d ≡ date_of (s / 86400) → o ≡ ordinal_of d → f ≡ epoch_fraction (s % 86400) nanos
    → ◌≡◌ {A = Epoch} (record { year = d.year; day = of_nat o ⊕ f }) (epoch_at secs nanos)
unfolding epoch_at
made secs nanos d o f p q r = simp (r, q, p)

pub ordinal-day_of_year-requires : goal.ordinal-day_of_year-requires
ordinal-day_of_year-requires c = in_year _ c.date_of-date.result c.date_of-date.ensures

pub returns : goal.returns
returns c =
    let t = c.args.t in
    made t.secs t.nanos c.date_of-date.result c.ordinal-day_of_year.result c.day_fraction.result c.date_of-date.ensures c.ordinal-day_of_year.ensures c.day_fraction.ensures
