-- `geodetic::line::field` meets its contract. Assumes nothing.
use mathlib.Core.Path.{refl, sym, ◌∙◌}
use mathlib.Core.List.{◌∷◌, map}
use Prim.Native.Nat.{◌+◌}
use Rattle.laws.proofs.Lists.{rest}
use Rattle.decimal.specs.Read.{number}
use Rattle.geodetic.specs.Line.{fields_of}
use Rattle.geodetic.proofs.Numbers.{only, next}
use Rattle.geodetic.proofs.line.field.Goals as goal

pub returns-then-k-l : goal.returns-then-k-l
returns-then-k-l c = let u = c.until-k.ensures in (refl, only _ _ u.is u.inside c.if-k-l.true)

pub returns : goal.returns
returns c =
    let u = c.until-k.ensures in
    let p = c.parse.ensures in
    next _ _ u.is u.inside c.if-k-l.false ∙ (λ j. sym p j ∷ map number (fields_of (sym (rest c.args.l.now (c.until-k.result + 1)) j)))
