use Rattle.std.proofs.Common.{rules, sym, ◌∙◌, arith}
use Rattle.moment.proofs.Ranges.{at_is}
use Rattle.frame.proofs.Entries.{out, taken_at}
use Rattle.frame.proofs.datetime_to_jd.Goals as goal

pub returns-in_err-t : goal.returns-in_err-t
returns-in_err-t c = search rules ∙ out c.args.dt _ (sym (c.in_err-t.was) ∙ c.try_from.ensures)

pub jd_at-requires : goal.jd_at-requires
jd_at-requires c =
    let h = (at_is _ _ _ (sym (c.in_ok-t.was) ∙ c.try_from.ensures)).accepted in
    (omega (arith, h.low), omega (arith, h.high))

pub returns : goal.returns
returns c =
    taken_at c.args.dt _ _ (sym (c.in_ok-t.was) ∙ c.try_from.ensures) c.jd_at.ensures
