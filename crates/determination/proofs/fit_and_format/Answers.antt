-- `fit_and_format` meets its contract. Assumes nothing.
use mathlib.Core.Path.{◌≡◌}
use borrow.Author.Rules.{rules}
use Rattle.std.proofs.Common.{Err}
use Rattle.determination.proofs.Calls.{fit_refused, fit_accepted}
use Rattle.determination.proofs.fit_and_format.Goals as goal

pub returns-in_err-fit : goal.returns-in_err-fit
returns-in_err-fit c =
    let e : c.from_residual.result ≡ Err c.in_err-fit.field-0.0 = search rules in
    rw e (fit_refused _ _ c.in_err-fit.was c.fit_orbit_doppler.ensures)

pub returns : goal.returns
returns c =
    fit_accepted _ _ c.in_ok-fit.was c.fit_orbit_doppler.ensures c.format_tle_catalog-lines.ensures
