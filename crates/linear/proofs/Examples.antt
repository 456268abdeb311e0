-- Worked examples: what the definitions give. The first two are of the document's table.
use mathlib.Core.Path.{◌≡◌, refl}
use mathlib.Core.List.{[], ◌∷◌}
use mathlib.Core.Option.{some}
use lib.Ieee.{round, add, sub, mul, div, neg, lt, eq, of_bits}
use Rattle.loops.specs.Loop.{for, turns, rev, try, tried}
use Rattle.float.specs.Constant.{decimal}
use Rattle.float.specs.Ops.{bits, abs_of, one, two}
use Rattle.linear.specs.Elimination.{least_pivot, larger_pivot, pivot_row, swap_entries, swap_rows, eliminate_entry, eliminate_row, eliminate_below, reduce_column, forward_elimination, add_term, substitute_row, back_substitution, augment_entry, augment_row, augmented, solution_of}
use Rattle.std.specs.Prelude.{Some}
use Rattle.refusal.specs.declared.Refusal.TheVariants.{SmallPivot}
use Rattle.linear.specs.Answer.{system_refusal}

-- 1e-12 x = 1e-12 is solved by 1, and a pivot of 5e-13 is refused
pub pivot_at_limit : solution_of 1 (decimal 1 12 ∷ []) (decimal 1 12 ∷ []) ≡ some (one ∷ [])
unfolding one two least_pivot of_bits round add sub mul div neg lt eq for turns rev try tried abs_of larger_pivot pivot_row swap_entries swap_rows eliminate_entry eliminate_row eliminate_below reduce_column forward_elimination add_term substitute_row back_substitution augment_entry augment_row augmented solution_of
pivot_at_limit = refl

pub pivot_below_limit : system_refusal 1 (decimal 5 13 ∷ []) (one ∷ []) 1 2 ≡ Some SmallPivot
unfolding one two least_pivot of_bits round add sub mul div neg lt eq for turns rev try tried abs_of larger_pivot pivot_row swap_entries swap_rows eliminate_entry eliminate_row eliminate_below reduce_column forward_elimination add_term substitute_row back_substitution augment_entry augment_row augmented solution_of system_refusal
pivot_below_limit = refl

-- 0 x + y = 2, x + 0 y = 3: the rows change places
rows_change : solution_of 2 (bits 0 ∷ one ∷ one ∷ bits 0 ∷ []) (two ∷ decimal 3 0 ∷ [])
    ≡ some (decimal 3 0 ∷ two ∷ [])
unfolding one two least_pivot of_bits round add sub mul div neg lt eq for turns rev try tried abs_of larger_pivot pivot_row swap_entries swap_rows eliminate_entry eliminate_row eliminate_below reduce_column forward_elimination add_term substitute_row back_substitution augment_entry augment_row augmented solution_of
rows_change = refl

-- a system of no rows has the empty solution
no_rows : solution_of 0 [] [] ≡ some []
unfolding for turns rev try tried forward_elimination back_substitution augmented solution_of
no_rows = refl
