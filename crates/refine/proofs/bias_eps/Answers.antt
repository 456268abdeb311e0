-- `bias_eps` meets its contract. Assumes nothing.
use Rattle.refine.specs.Jacobian.{milli_bits, hundredth_bits, tenth_milli_bits, micro_bits, bias_eps}
use native.Mathlib.Omega.{arith}
use borrow.Author.Tests.{ne_eqb}
use Rattle.refine.proofs.bias_eps.Goals as goal

pub returns-in-0 : goal.returns-in-0
unfolding bias_eps
returns-in-0 c = rw c.in-0.is milli_bits

pub returns-in-1 : goal.returns-in-1
unfolding bias_eps
returns-in-1 c = rw c.in-1.is hundredth_bits

pub returns-in-2 : goal.returns-in-2
unfolding bias_eps
returns-in-2 c = rw c.in-2.is tenth_milli_bits

pub returns-in_default : goal.returns-in_default
unfolding bias_eps
returns-in_default c =
    let j = c.args.j in
    rw (ne_eqb j 0 (λ q. omega arith), ne_eqb j 1 (λ q. omega arith), ne_eqb j 2 (λ q. omega arith)) micro_bits
