-- `geodetic::line::fields` meets its contract. Assumes nothing.
use mathlib.Core.Path.{◌≡◌, sym, ap, ◌∙◌}
use mathlib.Core.List.{List, [], ◌∷◌, map}
use Prim.Native.Nat.{ℕ}
use native.Mathlib.Omega.{arith}
use lib.Seq.{length-take-le}
use Rattle.std.proofs.Common.{Result, Err, rules}
use Rattle.frame.specs.declared.Vec3.{Vec3}
use Rattle.refusal.specs.declared.Refusal.{Refusal}
use Rattle.refusal.specs.declared.Refusal.TheVariants.{PositionRange}
use Rattle.decimal.specs.Read.{Number, number}
use Rattle.geodetic.specs.Line.{fields_of, from_numbers}
use Rattle.geodetic.proofs.Numbers.{not_three, third_is, fourth}
use Rattle.geodetic.proofs.line.fields.Goals as goal

-- one field, and two
one : (l : List ℕ) {r : Result Vec3 Refusal} → r ≡ Err PositionRange → map number (fields_of l) ≡ number l ∷ [] → r ≡ from_numbers (map number (fields_of l))
one l r e = r ∙ not_three (number l ∷ []) (λ (z : ◌≡◌ {A = ℕ} 1 3). omega arith) ∙ sym (ap from_numbers e)

two : (l b : List ℕ) (lat : Number) {r : Result Vec3 Refusal} → r ≡ Err PositionRange → map number (fields_of l) ≡ lat ∷ map number (fields_of b) → map number (fields_of b) ≡ number b ∷ [] → r ≡ from_numbers (map number (fields_of l))
two l b lat r e f = r ∙ not_three (lat ∷ number b ∷ []) (λ (z : ◌≡◌ {A = ℕ} 2 3). omega arith) ∙ sym (ap from_numbers (e ∙ ap (λ (ns : List Number). lat ∷ ns) f))

pub returns-in_err-lat : goal.returns-in_err-lat
returns-in_err-lat c = let e = c.in_err-lat.ensures in one c.args.l.now (search rules) e.1

pub returns-in_err-lon : goal.returns-in_err-lon
returns-in_err-lon c = let e = c.in_err-lon.ensures in two c.args.l.now _ _ (search rules) c.in_ok-lat.ensures e.1

pub returns-then-k-end : goal.returns-then-k-end
returns-then-k-end c =
    let u = c.until-k.ensures in
    let lat = c.in_ok-lat.lat in
    fourth _ _ u.is u.inside lat c.in_ok-lon.lon c.if-k-end.true
    ∙ sym (ap from_numbers (c.in_ok-lat.ensures ∙ ap (λ (ns : List Number). lat ∷ ns) c.in_ok-lon.ensures))

pub returns : goal.returns
returns c =
    let u = c.until-k.ensures in
    let lat = c.in_ok-lat.lat in
    let lon = c.in_ok-lon.lon in
    c.place.ensures ∙ third_is _ _ u.is u.inside lat lon c.parse.ensures c.if-k-end.false
    ∙ sym (ap from_numbers (c.in_ok-lat.ensures ∙ ap (λ (ns : List Number). lat ∷ ns) c.in_ok-lon.ensures))

pub slice_bounds-parse-end : goal.slice_bounds-parse-end
slice_bounds-parse-end c = sym (length-take-le _ _ c.until-k.ensures.inside)
