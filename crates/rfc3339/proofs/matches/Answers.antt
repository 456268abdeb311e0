-- `rfc3339::matches` meets its contract: the pattern's bytes are compared as the definition does. Assumes nothing.
use Rattle.std.proofs.Common.{ℕ, sym, ◌∙◌, rules, tests}
use Rattle.std.proofs.lemmas.Iterator.{YieldsList-from_slice, YieldsList-from_zip}
use Rattle.std.proofs.lemmas.Iterator.Search.{all_from_yields_List}
use borrow.Author.Tests.{lt-leb}
use Rattle.rfc3339.specs.Rfc3339.{place_fits}
use Rattle.rfc3339.proofs.Stamps.{matches_is, matches_short}
use Rattle.rfc3339.proofs.matches.Goals as goal

pub returns-then-p-l : goal.returns-then-p-l
returns-then-p-l c =
    all_from_yields_List (λ (q : ℕ × ℕ). place_fits q.0 q.1) c.all.new.self _ _ c.all.ensures.ran
    (YieldsList-from_zip (YieldsList-from_slice c.args.p.now cc) (YieldsList-from_slice c.args.l.now cc)) (λ x b q k. search (rules, tests))
    ∙ sym (matches_is c.args.p.now c.args.l.now c.if-p-l.true)

pub returns-else-p-l : goal.returns-else-p-l
returns-else-p-l c = rw (lt-leb _ _ c.if-p-l.false) (sym (matches_short _ _ c.if-p-l.false))
