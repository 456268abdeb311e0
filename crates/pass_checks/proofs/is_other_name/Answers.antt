-- `is_other_name` meets its contract. Assumes nothing.
use Rattle.std.proofs.Common.{refl, ◌∙◌}
use lib.Dec.{eqb}
use Rattle.pass_checks.proofs.Walks.{no_file, no_name, another, same_is}
use Rattle.pass_checks.proofs.is_other_name.Goals as goal

pub returns-in_default : goal.returns-in_default
returns-in_default c = no_file _ _ c.read_pass_file.ensures.says c.in_default.is

pub returns-in-Some : goal.returns-in-Some
returns-in-Some c = c.ne.ensures ∙ another _ _ c.read_pass_file.ensures.says c.in-Ok.is c.in-Some.is c.name_at.ensures (same_is eqb (λ x y. refl) _ _)

pub returns-in-None : goal.returns-in-None
returns-in-None c = no_name _ _ c.read_pass_file.ensures.says c.in-Ok.is c.in-None.is
