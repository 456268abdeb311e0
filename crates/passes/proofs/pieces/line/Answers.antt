-- `passes::pieces::line` meets its contract. Assumes nothing.
use mathlib.Core.Path.{◌≡◌, sym, subst}
use Prim.Native.Nat.{ℕ, ◌+◌}
use native.Mathlib.Omega.{arith}
use Rattle.passes.specs.Text.{Cut}
use Rattle.passes.proofs.Cuts.{cut_last, cut_empty, cut_crlf, cut_lf}
use Rattle.passes.proofs.pieces.line.Goals.{else-k-gt0-via-then-k-gt0+else-l-k-eq13, else-k-gt0-via-else-k-gt0}
use Rattle.passes.proofs.pieces.line.Goals as goal

pub returns-then-k-l : goal.returns-then-k-l
returns-then-k-l c = let u = c.until-k.ensures in cut_last _ _ u.is u.inside c.requires c.if-k-l.true

pub returns-then-l-k-eq13 : goal.returns-then-l-k-eq13
returns-then-l-k-eq13 c = let u = c.until-k.ensures in cut_crlf _ _ u.is u.inside c.requires c.if-k-l.false (λ (z : c.until-k.result ≡ 0). omega (arith, c.if-k-gt0.true)) c.if-l-k-eq13.true

pub returns : goal.returns
returns c =
    let u = c.until-k.ensures in
    elim c.else-k-gt0.branch [
      | else-k-gt0-via-then-k-gt0+else-l-k-eq13 w ↦ cut_lf _ _ u.is u.inside c.requires c.if-k-l.false (λ (z : c.until-k.result ≡ 0). omega (arith, w.if-k-gt0.true)) w.if-l-k-eq13.false
      | else-k-gt0-via-else-k-gt0 w ↦
          let z : c.until-k.result ≡ 0 = omega (arith, w.if-k-gt0.false) in
          subst (λ (n : ℕ). Cut c.args.l.now n (n + 1)) (sym z) (cut_empty _ _ u.is u.inside c.requires c.if-k-l.false z)
    ]
