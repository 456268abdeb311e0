-- Document 01's table holds, by computation. Assumes nothing.
use mathlib.Core.Path.{◌≡◌, refl}
use mathlib.Core.List.{[], ◌∷◌}
use Prim.Native.Nat.{◌-◌, ◌^◌}
use Rattle.std.proofs.Common.{Ok}
use Rattle.float.specs.Constant.{decimal}
use lib.Ieee.{neg, of_bits, round, of_int, to_unsigned, add, sub, mul, div, lt, eq, is_nan}
use Rattle.loops.specs.Loop.{for, turns, rev, try, tried}
use Rattle.roots.specs.Root.{sqrt_of}
use Rattle.float.specs.Ops.{abs_of, one, two, floor_of, raised}
use Rattle.moment.specs.Time.{seconds_of, units_between}
use Rattle.moment.specs.Range.{in_range}
use Rattle.moment.specs.Sample.{time_in_range, times_in_range, shifted}
use Rattle.moment.specs.Calendar.{leap, month_length, tomorrow_in, date_of}
use Rattle.frame.specs.Julian.{jd_of, julian_of, day_fraction, jd_at, datetime_to_jd_of}
use Rattle.pass_set.specs.PassSet.{total, sizes_agree}
use Rattle.linear.specs.Elimination.{least_pivot, larger_pivot, pivot_row, swap_entries, swap_rows, eliminate_entry, eliminate_row, eliminate_below, reduce_column, forward_elimination, add_term, substitute_row, back_substitution, augment_entry, augment_row, augmented, solution_of}
use Rattle.linear.specs.Answer as linear
use Rattle.monna.specs.Rng.{draw_of}
use Rattle.monna.specs.Digits.{monna_of, inverse_of, distance_of, digits, placed, digits_added, clamp_of, margin, times, valuation}
use Rattle.monna.specs.Answers.{base_refusal, digits_refusal, monna_map_of, p_adic_distance_of, inverse_monna_map_of}
use Rattle.monna.specs.History.{differences_of, difference_at, with_quotient, quotient_of, least_distance, tabulated}
use Rattle.arguments.specs.Passes.{non_empty}
use Rattle.float.specs.Trig.{pi}
use Rattle.arguments.specs.Refusals.{least_a, most_a, nan_argument, out_of_range, any_nan, scratch_size, enough}
use Rattle.fit.specs.Answer.{fit_refusal}
use Rattle.tle.specs.Lines.{weight_sum, checksum_of}
use Rattle.determination.specs.Table as document
use Rattle.determination.specs.Table.{Hold, whole}
use Rattle.refusal.specs.Refusals.{number_or_zero}

-- the digit maps and the systems of one row, each by a computation of its own
monna_up : monna_map_of 6 2 ≡ Ok (decimal 375 3)
unfolding monna_map_of base_refusal monna_of digits placed one of_bits round of_int add mul div
monna_up = refl

monna_back : inverse_monna_map_of (decimal 375 3) 2 16 ≡ Ok 6
unfolding inverse_monna_map_of digits_refusal inverse_of digits_added clamp_of margin one floor_of of_bits round of_int sub mul to_unsigned lt
monna_back = refl

monna_top : monna_map_of (2 ^ 64 - 1) 2 ≡ Ok (whole 1)
unfolding monna_map_of base_refusal monna_of digits placed one of_bits round of_int add mul div
monna_top = refl

eight_apart : p_adic_distance_of 0 8 2 ≡ Ok (decimal 125 3)
unfolding p_adic_distance_of base_refusal distance_of valuation times raised one of_bits round of_int mul div
eight_apart = refl

solves : number_or_zero (linear.system_refusal 1 (decimal 1 12 ∷ []) (whole 1 ∷ []) 1 2) ≡ 0
unfolding of_bits round add sub mul div neg lt eq for turns rev try tried abs_of one two least_pivot larger_pivot pivot_row swap_entries swap_rows eliminate_entry eliminate_row eliminate_below reduce_column forward_elimination add_term substitute_row back_substitution augment_entry augment_row augmented solution_of linear.system_refusal
solves = refl

refuses : number_or_zero (linear.system_refusal 1 (decimal 5 13 ∷ []) (whole 1 ∷ []) 1 2) ≡ 22
unfolding of_bits round add sub mul div neg lt eq for turns rev try tried abs_of one two least_pivot larger_pivot pivot_row swap_entries swap_rows eliminate_entry eliminate_row eliminate_below reduce_column forward_elimination add_term substitute_row back_substitution augment_entry augment_row augmented solution_of linear.system_refusal
refuses = refl

pub holds : Hold document.table
unfolding document.table neg of_bits round of_int to_unsigned floor_of add sub mul div lt eq is_nan for turns rev try tried sqrt_of abs_of one two seconds_of units_between in_range time_in_range times_in_range shifted leap month_length tomorrow_in date_of jd_of julian_of day_fraction jd_at datetime_to_jd_of total sizes_agree least_pivot larger_pivot pivot_row swap_entries swap_rows eliminate_entry eliminate_row eliminate_below reduce_column forward_elimination add_term substitute_row back_substitution augment_entry augment_row augmented solution_of draw_of distance_of times valuation raised differences_of difference_at with_quotient quotient_of least_distance tabulated non_empty least_a most_a pi nan_argument out_of_range any_nan scratch_size enough fit_refusal weight_sum checksum_of
holds = (refl, (refl, (refl, (monna_up, (monna_back, (monna_top, (eight_apart, (refl, (refl, (refl, (refl, (refl, (refl, (solves, (refuses, (refl, (refl, tt)))))))))))))))))
