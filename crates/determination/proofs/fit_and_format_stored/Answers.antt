-- `fit_and_format_stored` meets its contract. Assumes nothing.
use mathlib.Core.Path.{◌≡◌, refl, sym, ◌∙◌}
use lib.Seq.{length-take-le}
use borrow.Author.Rules.{rules}
use Rattle.std.proofs.Common.{Err}
use Rattle.determination.proofs.Calls.{Held, held, told, uncentred, bytes_refused, bytes_fitted}
use Rattle.determination.proofs.fit_and_format_stored.Goals.{In_ok-set}
use Rattle.determination.proofs.fit_and_format_stored.Goals as goal

pub returns-then-not-begins_with : goal.returns-then-not-begins_with
returns-then-not-begins_with c =
    bytes_refused _ _ _ (uncentred _ _ (sym c.begins_with.ensures ∙ c.if-not-begins_with.true))

pub returns-in_err-set : goal.returns-in_err-set
returns-in_err-set c =
    let e : c.from_residual.result ≡ Err c.in_err-set.field-0.0 = search rules in
    rw e (bytes_refused _ _ _ (told c.load.ensures refl refl refl _ (sym c.begins_with.ensures ∙ c.if-not-begins_with.false) c.in_err-set.was))

-- the arrays after the load
set : (c : In_ok-set) → let a = c.args in
    Held a.bytes.now c.load.new.counts c.load.new.times c.load.new.freqs a.centers.now c.in_ok-set.set
set c = held c.load.ensures refl refl refl _ (sym c.begins_with.ensures ∙ c.if-not-begins_with.false) c.in_ok-set.was

pub slice_bounds-counts-end : goal.slice_bounds-counts-end
slice_bounds-counts-end c = (set (goal.at.slice_bounds-counts-end c).In_ok-set).counts_room

pub slice_bounds-fit_and_format-end : goal.slice_bounds-fit_and_format-end
slice_bounds-fit_and_format-end c = sym (length-take-le _ _ (set (goal.at.slice_bounds-fit_and_format-end c).In_ok-set).counts_room)

pub slice_bounds-times-end : goal.slice_bounds-times-end
slice_bounds-times-end c = (set (goal.at.slice_bounds-times-end c).In_ok-set).times_room

pub slice_bounds-fit_and_format-end-2 : goal.slice_bounds-fit_and_format-end-2
slice_bounds-fit_and_format-end-2 c = sym (length-take-le _ _ (set (goal.at.slice_bounds-fit_and_format-end-2 c).In_ok-set).times_room)

pub slice_bounds-freqs-end : goal.slice_bounds-freqs-end
slice_bounds-freqs-end c = (set (goal.at.slice_bounds-freqs-end c).In_ok-set).freqs_room

pub slice_bounds-fit_and_format-end-3 : goal.slice_bounds-fit_and_format-end-3
slice_bounds-fit_and_format-end-3 c = sym (length-take-le _ _ (set (goal.at.slice_bounds-fit_and_format-end-3 c).In_ok-set).freqs_room)

pub returns : goal.returns
returns c = bytes_fitted (set (goal.at.returns c).In_ok-set) c.fit_and_format.ensures
