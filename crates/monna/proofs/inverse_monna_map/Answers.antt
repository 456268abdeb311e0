-- `inverse_monna_map` meets its contract. Assumes nothing.
use Rattle.std.proofs.Common.{le-ltb, lt-ltb}
use Rattle.std.proofs.lemmas.Result.{err_from_is_err_and}
use Rattle.monna.specs.Answers.{inverse_monna_map_of}
use Rattle.monna.proofs.Endings.{digits_off, digits_on}
use Rattle.monna.proofs.inverse_monna_map.Goals as goal

pub returns-in_err-base : goal.returns-in_err-base
unfolding inverse_monna_map_of
returns-in_err-base c =
    let p = err_from_is_err_and c.from_residual.result c.from_residual.ensures.1 in
    rw (p.1, p.2, digits_off _ c.args.precision _ c.in_err-base.ensures)

pub returns-then-precision-gt16 : goal.returns-then-precision-gt16
unfolding inverse_monna_map_of
returns-then-precision-gt16 c = rw (digits_on _ c.args.precision c.in_ok-base.ensures.0, lt-ltb _ _ c.if-precision-gt16.true)

pub returns : goal.returns
unfolding inverse_monna_map_of
returns c = rw (digits_on _ c.args.precision c.in_ok-base.ensures.0, le-ltb _ _ c.if-precision-gt16.false, c.inverse_value.ensures, c.in_ok-base.ensures.1)
