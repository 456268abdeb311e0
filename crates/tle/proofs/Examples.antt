-- Document 01's example, by computation. Assumes nothing.
use mathlib.Core.Path.{◌≡◌, refl, sym, ap, ◌∙◌}
use mathlib.Core.Bool.{true, false}
use mathlib.Core.List.{List, [], ◌∷◌, ◌++◌}
use Prim.Native.Nat.{ℕ, zero, suc, ◌-◌, ◌/◌, ◌%◌}
use Prim.Native.String.{String}
use lib.Dec.{lit<, lit≤}
use lib.IntN.{pos, negsuc}
use lib.Ieee.{Float, nan, add, mul, div, rem, lt, round, of_int, of_bits}
use Rattle.std.specs.Prelude.{Some, None}
use Rattle.refusal.specs.declared.Refusal.TheVariants.{MomentRange, Unprintable, ShortMemory}
use Rattle.text.specs.Text.{bytes, code}
use Rattle.float.specs.Ops.{◌⊕◌, bits, rem_euclid_of, degrees_of, degrees_per_radian, of_nat}
use Rattle.float.specs.Trig.{full, pi}
use Rattle.roots.specs.Root.{sqrt_of}
use Rattle.decimal.specs.Fixed.{nearest_units, fixed_text, cell_at}
use Rattle.moment.specs.Origin.{march1956}
use Rattle.moment.specs.Time.{seconds_of}
use Rattle.moment.specs.Range.{in_range}
use Rattle.moment.specs.Calendar.{leap, month_length, months_length, date_of, ordinal_of}
use Rattle.moment.specs.declared.Moment.{Moment}
use Rattle.moment.specs.declared.calendar.Date.{Date}
use Rattle.moment.proofs.Days.{from_march, from_january}
use Rattle.tle.specs.Elements.{full_circle, printed_degrees, within_turn, seconds_per_day, mean_motion_of, seconds_per_hour, seconds_per_minute, nanos_per_second, epoch_fraction, epoch_at, line_epoch}
use Rattle.solution.specs.Range.{least_radius, most_radius}
use Rattle.tle.specs.Answer.{angle_fits, radius_fits, inclination_fits, orbit_fits, visible, name_fits, lines_refusal}
use Rattle.tle.specs.Example.{epoch, example_orbit, first_line_lem, second_line}
use Rattle.tle.specs.Lines.{body1, body2, weight_sum, checksum_of, closed, line1, line2}
use Rattle.tle.specs.Printed.{matches_behind, matches_line, columns1, columns2}
use Rattle.tle.specs.declared.elements.Epoch.{Epoch}

-- ---- dates and times

-- a moment on the day d
epoch_on : (t : Moment) (d : Date) → let s = seconds_of t.seconds - march1956 in date_of (s / 86400) ≡ d
    → line_epoch t ≡ record { year = d.year; day = of_nat (ordinal_of d) ⊕ epoch_fraction (s % 86400) t.nanos }
unfolding epoch_at
epoch_on t d h = simp h

-- the day 25,670 after 1956-03-01
june_12 : date_of 25670 ≡ record { year = 2026; month = 6; day = 12 }
june_12 = sym (from_march 25670 2 (lit< tt) refl (lit< tt))

epoch_is : line_epoch epoch ≡ record { year = 2026; day = bits 0x4064600000000000 }
unfolding seconds_of epoch_fraction ordinal_of leap months_length month_length seconds_per_hour seconds_per_minute nanos_per_second seconds_per_day add mul div round of_int of_bits
epoch_is = epoch_on epoch (record { year = 2026; month = 6; day = 12 }) june_12

-- ---- the lines
example_day : line1 (record { year = 2026; day = bits 0x4064600000000000 }) ≡ first_line_lem
unfolding line1 closed body1 fixed_text cell_at checksum_of weight_sum round of_bits
example_day = refl

pub example_1 : line1 (line_epoch epoch) ≡ first_line_lem
example_1 = ap line1 epoch_is ∙ example_day

pub example_2 : line2 example_orbit ≡ second_line
unfolding line2 closed body2 fixed_text cell_at checksum_of weight_sum within_turn printed_degrees degrees_of degrees_per_radian full_circle rem_euclid_of mean_motion_of seconds_per_day full sqrt_of add mul div rem lt round of_bits
example_2 = refl

-- ---- the first and the last moments of years: 001.00000000 in 1957, 366.00000000 in 2026 and 367.00000000 in 2056
abbrev day_text : Float → List ℕ
day_text v = fixed_text (code "0") 8 (nearest_units 8 v) 12

january_1 : date_of 306 ≡ record { year = 1957; month = 1; day = 1 }
january_1 = sym (from_january 306 0 (lit< tt) refl (lit≤ tt))

first_moment : day_text (line_epoch (record { seconds = negsuc 410227199; nanos = 0 })).day ≡ bytes "001.00000000"
unfolding fixed_text cell_at seconds_of epoch_fraction ordinal_of leap months_length month_length seconds_per_hour seconds_per_minute nanos_per_second seconds_per_day add mul div round of_int of_bits
first_moment = ap (λ (e : Epoch). day_text e.day) (epoch_on (record { seconds = negsuc 410227199; nanos = 0 }) (record { year = 1957; month = 1; day = 1 }) january_1)

december_31 : date_of 25872 ≡ record { year = 2026; month = 12; day = 31 }
december_31 = sym (from_march 25872 2 (lit< tt) refl (lit< tt))

last_of_2026 : day_text (line_epoch (record { seconds = pos 1798761599; nanos = 999999999 })).day ≡ bytes "366.00000000"
unfolding fixed_text cell_at seconds_of epoch_fraction ordinal_of leap months_length month_length seconds_per_hour seconds_per_minute nanos_per_second seconds_per_day add mul div round of_int of_bits
last_of_2026 = ap (λ (e : Epoch). day_text e.day) (epoch_on (record { seconds = pos 1798761599; nanos = 999999999 }) (record { year = 2026; month = 12; day = 31 }) december_31)

december_31_2056 : date_of 36830 ≡ record { year = 2056; month = 12; day = 31 }
december_31_2056 = sym (from_march 36830 0 (lit< tt) refl (lit< tt))

last_moment : day_text (line_epoch (record { seconds = pos 2745532799; nanos = 999999999 })).day ≡ bytes "367.00000000"
unfolding fixed_text cell_at seconds_of epoch_fraction ordinal_of leap months_length month_length seconds_per_hour seconds_per_minute nanos_per_second seconds_per_day add mul div round of_int of_bits
last_moment = ap (λ (e : Epoch). day_text e.day) (epoch_on (record { seconds = pos 2745532799; nanos = 999999999 }) (record { year = 2056; month = 12; day = 31 }) december_31_2056)

-- ---- angles: π rad prints 180.0000, of 0.03125 and 0.09375 degrees the even one
abbrev angle_text_lem : Float → List ℕ
angle_text_lem v = fixed_text (code " ") 4 (nearest_units 4 v) 8

half_turn : angle_text_lem (printed_degrees (bits 0x400921fb54442d18)) ≡ bytes "180.0000"
unfolding fixed_text cell_at printed_degrees degrees_of degrees_per_radian full_circle rem_euclid_of add mul rem lt round of_bits
half_turn = refl

tie_down : angle_text_lem (bits 0x3fa0000000000000) ≡ bytes "  0.0312"
unfolding fixed_text cell_at round of_bits
tie_down = refl

tie_up : angle_text_lem (bits 0x3fb8000000000000) ≡ bytes "  0.0938"
unfolding fixed_text cell_at round of_bits
tie_up = refl

-- ---- about a turn: −0.0 rad prints 0.0000, the f64 nearest to 359.99995 degrees, which is above it, 0.0000, and the one before it 359.9999
minus_zero : angle_text_lem (within_turn (printed_degrees (bits 0x8000000000000000))) ≡ bytes "  0.0000"
unfolding fixed_text cell_at within_turn printed_degrees degrees_of degrees_per_radian full_circle rem_euclid_of add mul rem lt round of_bits
minus_zero = refl

just_turned : angle_text_lem (within_turn (bits 0x40767fffcb923a2a)) ≡ bytes "  0.0000"
unfolding fixed_text cell_at within_turn round of_bits
just_turned = refl

just_below : angle_text_lem (within_turn (bits 0x40767fffcb923a29)) ≡ bytes "359.9999"
unfolding fixed_text cell_at within_turn round of_bits
just_below = refl

-- a node of −1e-20 rad and a mean anomaly of 6.2831852 rad both printed 360.0000: line 2 is now that of two zeros
both_turned : line2 (record { a = example_orbit.a; i = example_orbit.i; raan0 = bits 0xbbc79ca10c924223; u0 = bits 0x401921fb4d12d84a; epoch = epoch }) ≡ second_line
unfolding line2 closed body2 fixed_text cell_at checksum_of weight_sum within_turn printed_degrees degrees_of degrees_per_radian full_circle rem_euclid_of mean_motion_of seconds_per_day full sqrt_of add mul div rem lt round of_bits
both_turned = refl

-- ---- refusals: names of 0, 24 and 25 bytes, a byte 127, an output one byte short, the end of 2056 passed (before a bad name), a NaN, an infinite angle
abbrev letters : ℕ → List ℕ
letters zero = []
letters (suc n) = code "A" ∷ letters n

refusals :
    lines_refusal [] example_orbit 141 ∷ lines_refusal (letters 24) example_orbit 165 ∷ lines_refusal (letters 25) example_orbit 200 ∷ lines_refusal (127 ∷ []) example_orbit 200 ∷ lines_refusal (letters 24) example_orbit 164
    ∷ lines_refusal (letters 25) (record { a = example_orbit.a; i = example_orbit.i; raan0 = example_orbit.raan0; u0 = example_orbit.u0; epoch = record { seconds = pos 2745532800; nanos = 0 } }) 0
    ∷ lines_refusal [] (record { a = nan; i = example_orbit.i; raan0 = example_orbit.raan0; u0 = example_orbit.u0; epoch = epoch }) 0
    ∷ lines_refusal [] (record { a = example_orbit.a; i = example_orbit.i; raan0 = bits 0x7fac7b1f3cac7433; u0 = example_orbit.u0; epoch = epoch }) 141 ∷ []
    ≡ None ∷ None ∷ Some Unprintable ∷ Some Unprintable ∷ Some ShortMemory ∷ Some MomentRange ∷ Some Unprintable ∷ Some Unprintable ∷ []
unfolding lines_refusal orbit_fits radius_fits inclination_fits angle_fits least_radius most_radius pi name_fits visible in_range seconds_of degrees_of degrees_per_radian mul lt round of_bits
refusals = refl

-- ---- columns: those of the example and one with leading zeros are right; a blank behind a digit, in the last whole place, or behind the point is not
abbrev inclined : String → List ℕ
inclined t = bytes "2 99999 " ++ bytes t ++ bytes "   0.0000 0000000   0.0000   0.0000 14.82366876000007"

right-columns :
    matches_line columns1 first_line_lem ∷ matches_line columns2 second_line ∷ matches_line columns2 (inclined "  5.0000") ∷ matches_line columns2 (inclined " 05.0000") ∷ matches_line columns2 (inclined "1 5.0000")
    ∷ matches_line columns2 (inclined "05 .0000") ∷ matches_line columns2 (inclined "   .0000") ∷ matches_line columns2 (inclined "  5. 000") ∷ []
    ≡ true ∷ true ∷ true ∷ true ∷ false ∷ false ∷ false ∷ false ∷ []
unfolding columns1 columns2 matches_behind
right-columns = refl
