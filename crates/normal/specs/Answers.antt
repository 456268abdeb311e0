-- What the answers of the code mean.
use Rattle.std.specs.Prelude.{List, Float}
use Rattle.normal.specs.Step.{Outcome, next, short, refused}
use Rattle.normal.specs.declared.Step.{Step}
use Rattle.normal.specs.declared.Step.TheVariants.{Next, Short, Refused}
use Rattle.normal.specs.declared.Stepped.{Stepped}

-- each case of a step's answer: a refusal, or, where it is none, the set x that it leads to, and the step's size
abbrev pub outcome : Step → List Float → Outcome
outcome (Next size) x = next x size
outcome Short x = short
outcome (Refused r) x = refused r

abbrev pub outcome_of : Stepped → Outcome
outcome_of r = outcome r.step r.params
