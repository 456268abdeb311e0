-- `tle::lines::copy_to` meets its contract: what is still to be stored, on what is stored, is the whole. Assumes nothing.
use mathlib.Core.Path.{◌≡◌, refl, ap, ◌∙◌}
use mathlib.Core.List.{List}
use Prim.Native.Nat.{ℕ, suc, ◌+◌, ◌≤◌, ◌<◌}
use native.Mathlib.Nat.{le_antisymm}
use native.Mathlib.Omega.{arith}
use lib.ListN.{length, set, get_or, drop, length-set}
use lib.Seq.{sets, drop-cons, drop-length}
use Rattle.tle.proofs.lines.copy_to.Goals as goal

step : (from to : List ℕ) (at i : ℕ) → i < length from → sets (set to (at + i) (get_or from i 0)) (at + (i + 1)) (drop (i + 1) from) ≡ sets to (at + i) (drop i from)
step from to at i h =
    let e : at + (i + 1) ≡ suc (at + i) = omega arith in
    let f : i + 1 ≡ suc i = omega arith in
    rw (drop-cons from i 0 h, e, f)

end : (from to : List ℕ) (at i : ℕ) → i ≤ length from → length from ≤ i → to ≡ sets to (at + i) (drop i from)
end from to at i h k = rw (le_antisymm h k, drop-length)

pub loop-i-init : goal.loop-i-init
loop-i-init c =
    let a = c.args in
    let e : a.at + 0 ≡ a.at = omega arith in
    (omega arith, refl, ap (λ (n : ℕ). sets a.to.now n a.from.now) e)

pub loop-i-preserved : goal.loop-i-preserved
loop-i-preserved c =
    let a = c.args in
    let l = c.loop-i in
    (omega arith, simp length-set l.invariant.1, step a.from.now l.to a.at l.i c.loop-i-test.true ∙ l.invariant.2)

pub returns : goal.returns
returns c =
    let l = c.loop-i in
    end c.args.from.now l.to c.args.at l.i l.invariant.0 c.loop-i-test.false ∙ l.invariant.2
