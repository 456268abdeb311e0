-- `Equations::scale_factors` meets its contract. Assumes nothing.
use native.Mathlib.Omega.{arith}
use Rattle.loops.proofs.Laws.{begins, again, ends}
use Rattle.normal.specs.Step.{scales, set_scale}
use borrow.Author.Rules.{rules}
use Rattle.normal.proofs.Equations.scale_factors.Goals as goal

pub loop-i-init : goal.loop-i-init
unfolding scales
loop-i-init c = (search rules, begins (rw (c.clear.ensures, c.requires)))

pub loop-i-preserved : goal.loop-i-preserved
unfolding set_scale
loop-i-preserved c = (search rules, again (search rules) c.loop-i.invariant.1 (simp (c.scale_factor.ensures, c.sqrt.ensures, c.entry.ensures)))

pub returns : goal.returns
returns c = ends (omega (arith, c.loop-i-test.false, c.loop-i.invariant.0)) c.loop-i.invariant.1
