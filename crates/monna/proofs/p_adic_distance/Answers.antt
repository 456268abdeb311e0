-- `p_adic_distance` meets its contract. Assumes nothing.
use Rattle.std.proofs.lemmas.Result.{err_from_is_err_and}
use Rattle.monna.specs.Answers.{p_adic_distance_of}
use Rattle.monna.proofs.p_adic_distance.Goals as goal

pub returns-in_err-base : goal.returns-in_err-base
unfolding p_adic_distance_of
returns-in_err-base c =
    let p = err_from_is_err_and c.from_residual.result c.from_residual.ensures.1 in
    rw (p.1, p.2, c.in_err-base.ensures)

pub returns : goal.returns
unfolding p_adic_distance_of
returns c = simp (c.in_ok-base.ensures.0, c.distance_value.ensures, c.in_ok-base.ensures.1)
