-- Document 01's table to prove: one list of rows. proofs/Table.antt proves that they hold.
use Rattle.std.specs.Prelude.{◌≡◌, List, [], ◌∷◌, ℕ, ◌-◌, ◌^◌, pos, negsuc, take, replicate, Float, Ok}
use Rattle.std.proofs.Math.Option.{some}
use Rattle.std.specs.Float.Ieee.{neg}
use Rattle.float.specs.Constant.{decimal}
use Rattle.moment.specs.Time.{units_between}
use Rattle.moment.specs.Sample.{sample_count}
use Rattle.frame.specs.Julian.{datetime_to_jd_of}
use Rattle.refusal.specs.Refusals.{number_or_zero}
use Rattle.linear.specs.Elimination.{solution_of}
use Rattle.linear.specs.Answer as linear
use Rattle.monna.specs.Rng.{draw_of}
use Rattle.monna.specs.History.{differences_of}
use Rattle.monna.specs.Answers.{monna_map_of, p_adic_distance_of, inverse_monna_map_of}
use Rattle.arguments.specs.Refusals as given
use Rattle.arguments.specs.declared.Room.{Room}
use Rattle.fit.specs.Answer.{Arguments, arguments, fit_refusal}
use Rattle.tle.specs.Lines.{checksum_of}
use Rattle.tle.specs.Example.{first_line_lem, second_line}

-- what a definition gives, and the value
infix 40 ◌is◌
pub data Row : Type 1 where
  ◌is◌ : {A : Type 0} → A → A → Row

-- every row is an equation
abbrev pub Hold : List Row → Type 0
Hold [] = Unit
Hold ((a is b) ∷ rows) = (a ≡ b) × Hold rows

-- a whole number
abbrev pub whole : ℕ → Float
whole n = decimal n 0

-- S samples of 1970-01-01 in two passes, the first of three
abbrev two_passes : ℕ → Arguments
two_passes s =
    arguments (3 ∷ (s - 3) ∷ []) (replicate s (pos 0)) (replicate s (whole 150800000)) (whole 150800000 ∷ whole 150800000 ∷ [])
    (record { x = whole 6378137; y = whole 0; z = whole 0 }) (whole 7000000) (whole 1)

-- with no memory lent, a fit whose input is accepted gives 21
abbrev no_room : Room
no_room = given.room_of 0 0 0 0 0 0

unfoldable pub table : List Row
table =
    -- JD of 2000-01-01T12:00:00Z
    (datetime_to_jd_of (record { seconds = pos 946728000; nanos = 0 }) is Ok (whole 2451545))
    -- −1,500 ns and −999 ns in µs
    ∷ (units_between 1000 (sample_count (negsuc 1499)) (sample_count (pos 0)) is negsuc 0)
    ∷ (units_between 1000 (sample_count (negsuc 998)) (sample_count (pos 0)) is pos 0)
    ∷ (monna_map_of 6 2 is Ok (decimal 375 3))
    ∷ (inverse_monna_map_of (decimal 375 3) 2 16 is Ok 6)
    ∷ (monna_map_of (2 ^ 64 - 1) 2 is Ok (whole 1))
    ∷ (p_adic_distance_of 0 8 2 is Ok (decimal 125 3))
    ∷ (differences_of (whole 5 ∷ []) is whole 0 ∷ [])
    ∷ (differences_of (whole 1 ∷ whole 0 ∷ []) is whole 1 ∷ neg (whole 1) ∷ [])
    ∷ ((draw_of (record { state = 1 })).rng.state is 7806831264735756412)
    -- document 01's two lines
    ∷ (checksum_of (take 68 first_line_lem) is 8)
    ∷ (checksum_of (take 68 second_line) is 7)
    -- 1 by 1 systems with pivots 1e-12 and 5e-13
    ∷ (solution_of 1 (decimal 1 12 ∷ []) (decimal 1 12 ∷ []) is some (whole 1 ∷ []))
    ∷ (number_or_zero (linear.system_refusal 1 (decimal 1 12 ∷ []) (whole 1 ∷ []) 1 2) is 0)
    ∷ (number_or_zero (linear.system_refusal 1 (decimal 5 13 ∷ []) (whole 1 ∷ []) 1 2) is 22)
    -- P = 2 and S = 5, S = 6
    ∷ (number_or_zero (fit_refusal (two_passes 5) no_room) is 10)
    ∷ (number_or_zero (fit_refusal (two_passes 6) no_room) is 21)
    ∷ []
