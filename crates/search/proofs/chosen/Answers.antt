-- `chosen` meets its contract. Assumes nothing.
use Rattle.search.proofs.Steps.{chosen_law}
use Rattle.search.proofs.chosen.Goals as goal

pub returns-then-reg_rss_scrambled-reg_rss_current : goal.returns-then-reg_rss_scrambled-reg_rss_current
returns-then-reg_rss_scrambled-reg_rss_current c =
    let a = c.args in
    chosen_law _ a.w _ a.next a.other _ c.regularized-reg_rss_current.ensures c.regularized-reg_rss_scrambled.ensures c.kept-best.ensures c.if-reg_rss_scrambled-reg_rss_current.true

pub returns-else-reg_rss_scrambled-reg_rss_current : goal.returns-else-reg_rss_scrambled-reg_rss_current
returns-else-reg_rss_scrambled-reg_rss_current c =
    let a = c.args in
    chosen_law _ a.w _ a.next a.other _ c.regularized-reg_rss_current.ensures c.regularized-reg_rss_scrambled.ensures c.kept-best.ensures c.if-reg_rss_scrambled-reg_rss_current.false
