-- `map_to_normalized_search_space` meets its contract. Assumes nothing.
use Rattle.std.proofs.Common.{◌∙◌, arith}
use Rattle.monna.proofs.Filled.{rows_placed}
use Rattle.monna.proofs.map_to_normalized_search_space.Goals as goal

pub returns : goal.returns
returns c =
    rows_placed _ _ _ _ _ _ (omega arith) c.copy_from_slice.ensures.after (c.copy_from_slice-2.ensures.after ∙ c.row.ensures) (c.copy_from_slice-3.ensures.after ∙ c.row-2.ensures)
    (c.copy_from_slice-4.ensures.after ∙ c.row-3.ensures) (c.copy_from_slice-5.ensures.after ∙ c.row-4.ensures)
