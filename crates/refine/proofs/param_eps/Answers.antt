-- `param_eps` meets its contract. Assumes nothing.
use native.Mathlib.Omega.{arith}
use Rattle.refine.specs.Jacobian.{a_eps_bits, micro_bits, eps_of}
use borrow.Author.Tests.{le-ltb, lt-ltb, ne_eqb}
use Rattle.refine.proofs.param_eps.Goals as goal

pub returns-in-0 : goal.returns-in-0
unfolding eps_of
returns-in-0 g c = rw c.in-0.is a_eps_bits

pub returns-in-1-to-3 : goal.returns-in-1-to-3
unfolding eps_of
returns-in-1-to-3 g c =
    let k = c.args.k in
    rw (ne_eqb k 0 (λ q. omega arith), lt-ltb k 4 (omega arith)) micro_bits

pub returns-in_default : goal.returns-in_default
unfolding eps_of
returns-in_default g c =
    let k = c.args.k in
    rw (ne_eqb k 0 (λ q. omega arith), le-ltb k 4 (omega arith), ne_eqb g.row.SECOND 0 c.if-this-ne0.true, c.bias_eps.ensures)

pub returns-in_default-2 : goal.returns-in_default-2
unfolding eps_of
returns-in_default-2 g c =
    let k = c.args.k in
    rw (ne_eqb k 0 (λ q. omega arith), le-ltb k 4 (omega arith), c.if-this-ne0.false, c.bias_eps-in_default-2.ensures)
