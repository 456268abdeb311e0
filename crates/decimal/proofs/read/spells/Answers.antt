-- `decimal::read::spells` meets its contract: words of one length are compared as the definition does. Assumes nothing.
use Rattle.std.proofs.Common.{ℕ, eqb, sym, ◌∙◌, rules, tests}
use Rattle.std.proofs.lemmas.Iterator.{YieldsList-from_slice, YieldsList-from_zip}
use Rattle.std.proofs.lemmas.Iterator.Search.{all_from_yields_List}
use borrow.Author.Tests.{ne_eqb}
use Rattle.decimal.specs.Read.{lower}
use Rattle.decimal.proofs.Scan.{spells_is, spells_length}
use Rattle.decimal.proofs.read.spells.Goals as goal

pub returns-then-l-w : goal.returns-then-l-w
returns-then-l-w c =
    all_from_yields_List (λ (p : ℕ × ℕ). eqb (lower p.0) p.1) c.all.new.self _ _ c.all.ensures.ran
    (YieldsList-from_zip (YieldsList-from_slice c.args.l.now cc) (YieldsList-from_slice c.args.w.now cc)) (λ x b q k. search (rules, tests))
    ∙ sym (spells_is c.args.l.now c.args.w.now (search (rules, tests)))

pub returns-else-l-w : goal.returns-else-l-w
returns-else-l-w c = rw (ne_eqb _ _ c.if-l-w.false) (sym (spells_length _ _ c.if-l-w.false))
