use mathlib.Core.Path.{sym, ap, ◌∙◌, subst}
use lib.Dec.{T, lit<, lit≤}
use Rattle.decimal.specs.Fixed.{printable}
use Rattle.tle.specs.Lines.{line1}
use Rattle.tle.specs.declared.elements.Epoch.{Epoch}
use Rattle.tle.proofs.Ranges.{prints}
use Rattle.tle.proofs.Accepted.{epoch_up}
use Rattle.tle.proofs.first_line.Goals as goal

pub line_1-requires : goal.line_1-requires
line_1-requires c =
    subst (λ (e : Epoch). T (printable e.day 8 12 20 69)) (sym c.epoch_of-e.ensures)
    (prints _ 8 12 20 367 (epoch_up c.args.t.secs c.args.t.nanos c.requires) (lit≤ tt) (lit≤ tt) (lit≤ tt) (lit≤ tt) (lit≤ tt) (lit< tt))

pub returns : goal.returns
unfolding line1
returns c = c.line_1.ensures ∙ ap line1 c.epoch_of-e.ensures
