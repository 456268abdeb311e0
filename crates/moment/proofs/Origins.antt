-- The origins by the calendar. Assumes nothing.
use Rattle.std.proofs.Common.{◌≡◌, ◌+◌, ◌-◌, ◌*◌, ◌^◌, [], ◌∷◌, refl}
use lib.IntN.{sub_ℕ}
use Rattle.moment.specs.Calendar.{leap, year_length, month_length, months_length, days_to_year}
use Rattle.moment.specs.Origin.{per_second, per_day, start1970, march1956, march2096, start1957, start2057, earliest, latest, time1957, time2057, count1970, count1957, count2057, counts_start, reader1970}

pub origins :
    start1970 ∷ start1957 ∷ start2057 ∷ march1956 ∷ march2096 ∷ reader1970 ∷ []
    ≡ 2 ^ 44 ∷ (start1970 - (days_to_year 1970 - days_to_year 1957) * per_day) ∷ (start1970 + (days_to_year 2057 - days_to_year 1970) * per_day)
    ∷ (start1970 - (days_to_year 1970 - (days_to_year 1956 + months_length (leap 1956) 2)) * per_day) ∷ (start1970 + (days_to_year 2096 + months_length (leap 2096) 2 - days_to_year 1970) * per_day) ∷ ((days_to_year 1970 + 1) * per_day) ∷ []
unfolding leap year_length month_length months_length days_to_year
origins = refl

pub ends : earliest ∷ latest ∷ [] ≡ (start1970 - 8000000000000) ∷ (start1970 + 8000000000000) ∷ []
ends = refl

pub times : time1957 ∷ time2057 ∷ [] ≡ sub_ℕ (start1957 * per_second) (start1970 * per_second) ∷ sub_ℕ (start2057 * per_second) (start1970 * per_second) ∷ []
times = refl

pub counts :
    count1970 ∷ count1957 ∷ count2057 ∷ []
    ≡ ((start1970 - counts_start) * per_second) ∷ ((start1957 - counts_start) * per_second) ∷ ((start2057 - counts_start) * per_second) ∷ []
counts = refl
