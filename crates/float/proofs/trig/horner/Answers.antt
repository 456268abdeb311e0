use Rattle.std.proofs.Common.{◌≡◌, ℕ, suc, ◌-◌, ◌<◌, List, [], ◌∷◌, length, drop, get_or, sym, ap, ◌∙◌, subst, arith}
use Rattle.std.proofs.Math.Seq.{drop-cons}
use Rattle.std.proofs.lemmas.List.{drop_all}
use lib.Ieee.{Float, nan}
use Rattle.float.specs.Ops.{◌⊕◌, ◌⊗◌}
use Rattle.float.specs.Trig.{horner}
use Rattle.float.proofs.trig.horner.Goals as goal

single : (w : Float) (xs : List Float) (k : ℕ) → suc k ≡ length xs → get_or xs k nan ≡ horner w (drop k xs)
single w xs k e =
    let all : drop (suc k) xs ≡ [] = drop_all (suc k) xs (omega arith) in
    sym (ap (horner w) (drop-cons xs k nan (omega arith) ∙ ap (λ (ys : List Float). get_or xs k nan ∷ ys) all))

step : (w sum : Float) (xs : List Float) (k : ℕ) → suc k < length xs → sum ≡ horner w (drop (suc k) xs) → get_or xs k nan ⊕ w ⊗ sum ≡ horner w (drop k xs)
step w sum xs k h e =
    let next = drop-cons xs (suc k) nan h in
    let here = drop-cons xs k nan (omega arith) in
    ap (λ (s : Float). get_or xs k nan ⊕ w ⊗ s) (e ∙ ap (horner w) next) ∙ sym (ap (horner w) (here ∙ ap (λ (ys : List Float). get_or xs k nan ∷ ys) next))

pub loop-k-init : goal.loop-k-init
loop-k-init c = single c.args.w c.args.terms.now (length c.args.terms.now - 1) (omega arith)

pub loop-k-preserved : goal.loop-k-preserved
loop-k-preserved c =
    let e : c.loop-k.k ≡ suc (c.loop-k.k - 1) = omega arith in
    step c.args.w c.loop-k.sum c.args.terms.now (c.loop-k.k - 1) (omega arith) (subst (λ (i : ℕ). c.loop-k.sum ≡ horner c.args.w (drop i c.args.terms.now)) e c.loop-k.invariant)

pub returns : goal.returns
returns c =
    let e : c.loop-k.k ≡ 0 = omega arith in
    subst (λ (i : ℕ). c.loop-k.sum ≡ horner c.args.w (drop i c.args.terms.now)) e c.loop-k.invariant
