-- `keep_name` meets its contract. Assumes nothing.
use Rattle.std.proofs.Common.{sym, ◌∙◌}
use Rattle.command.proofs.Lists.{no_new_name, kept_name, new_name}
use Rattle.command.proofs.gather.keep_name.Goals as goal

pub returns-in_default : goal.returns-in_default
returns-in_default c = no_new_name _ _ _ _ _ c.in_default.is

pub returns-then-stays : goal.returns-then-stays
returns-then-stays c = kept_name _ _ _ _ _ c.in-Some.is (sym c.stays.ensures ∙ c.if-stays.true)

pub returns : goal.returns
returns c = new_name _ _ _ _ _ c.in-Some.is _ (sym c.stays.ensures ∙ c.if-stays.false) c.name_at.ensures c.put-size.ensures
