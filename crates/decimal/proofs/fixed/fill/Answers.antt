-- `decimal::fixed::fill` meets its contract: what is still to be stored, on what is stored, is the whole. Assumes nothing.
use mathlib.Core.Path.{◌≡◌, refl, sym, ap, ◌∙◌}
use mathlib.Core.List.{List, ◌++◌, append-nil}
use Prim.Native.Nat.{ℕ, zero, suc, ◌+◌, ◌-◌, ◌≤◌, ◌<◌}
use native.Mathlib.Nat.{sub-zero}
use native.Mathlib.Numerals.{add-one}
use native.Mathlib.Omega.{arith}
use lib.ListN.{length, set, take, drop, length-set, length-drop, drop_of_length-le}
use lib.Seq.{sets, sets-eq, length-take-le}
use Rattle.laws.proofs.Places.{put_back}
use Rattle.decimal.specs.Fixed.{fixed_text, cell_at}
use Rattle.decimal.proofs.fixed.fill.Goals as goal

-- one column is stored, and the rest is to be
step : (out : List ℕ) (k pad p n x w : ℕ) → k < w → x ≡ cell_at pad p n (w - 1 - k) → sets (set out k x) (k + 1) (fixed_text pad p n (w - (k + 1))) ≡ sets out k (fixed_text pad p n (w - k))
unfolding fixed_text
step out k pad p n x w h e =
    let l : w - k ≡ suc (w - (k + 1)) = omega arith in
    let m : w - 1 - k ≡ w - (k + 1) = omega arith in
    rw (l, e, m, add-one)

text_length : (pad p n w : ℕ) → length (fixed_text pad p n w) ≡ w
unfolding fixed_text
text_length pad p n zero = refl
text_length pad p n (suc w) = ap suc (text_length pad p n w)

sets_all : (vs out : List ℕ) → length out ≡ length vs → sets out 0 vs ≡ vs
sets_all vs out e = sets-eq vs out 0 (omega arith) ∙ ap (λ (r : List ℕ). vs ++ r) (drop_of_length-le out (omega arith)) ∙ append-nil vs

-- the columns that are lent
part_length : (out : List ℕ) (at w : ℕ) → at + w ≤ length out → length (take (at + w - at) (drop at out)) ≡ w
part_length out at w h = length-take-le (at + w - at) (drop at out) (omega (arith, length-drop at out)) ∙ omega arith

begun : (out : List ℕ) (pad p n w : ℕ) → length out ≡ w → sets out 0 (fixed_text pad p n (w - 0)) ≡ fixed_text pad p n w
begun out pad p n w e = ap (λ (k : ℕ). sets out 0 (fixed_text pad p n k)) (sub-zero w) ∙ sets_all (fixed_text pad p n w) out (e ∙ sym (text_length pad p n w))

pub loop-k-init : goal.loop-k-init
loop-k-init c =
    let a = c.args in
    let l = part_length a.out.now a.at a.width c.requires.0 in
    (l, begun _ a.pad a.places a.n a.width l)

pub loop-k-preserved : goal.loop-k-preserved
loop-k-preserved c =
    let l = c.loop-k in
    let a = c.args in
    (simp length-set l.invariant.0, step l.column-items l.k a.pad a.places a.n c.cell.result a.width (omega (arith, part_length a.out.now a.at a.width c.requires.0)) c.cell.ensures ∙ l.invariant.1)

pub returns : goal.returns
unfolding fixed_text
returns c =
    let l = c.loop-k in
    let a = c.args in
    let z : 0 ≡ a.width - l.k = omega (arith, part_length a.out.now a.at a.width c.requires.0) in
    put_back a.out.now l.column-items a.at a.width l.invariant.0 c.requires.0
    ∙ ap (sets a.out.now a.at) (ap (λ (k : ℕ). sets l.column-items l.k (fixed_text a.pad a.places a.n k)) z ∙ l.invariant.1)
