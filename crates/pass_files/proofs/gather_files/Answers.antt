-- `gather_files` meets its contract. Assumes nothing.
use mathlib.Core.Path.{refl}
use Prim.Native.Nat.{zero-le}
use native.Mathlib.Omega.{arith}
use borrow.Author.Rules.{rules}
use Rattle.command.proofs.Sets.{none_yet, gathered, ended_early, all_files}
use Rattle.pass_files.proofs.gather_files.Goals as goal

pub loop-i-init : goal.loop-i-init
loop-i-init g c =
    let o = c.no_files-g.ensures in
    (zero-le, refl, refl, refl, refl, search rules, none_yet _ _ _ _ o)

pub returns-in_err-g : goal.returns-in_err-g
returns-in_err-g g c =
    let i = c.loop-i.invariant in
    ended_early (c.add_word.ensures.next _ i.6) (omega (arith, c.loop-i-test.true)) c.in_err-g.was (search rules)

pub overflow_step-i : goal.overflow_step-i
overflow_step-i g c = record { fits = omega (arith, c.loop-i-test.true, c.requires.0) }

pub loop-i-smaller : goal.loop-i-smaller
loop-i-smaller g c = omega (arith, c.loop-i-test.true)

pub loop-i-preserved : goal.loop-i-preserved
loop-i-preserved g c =
    let i = c.loop-i.invariant in
    (omega (arith, c.loop-i-test.true), search rules, search rules, search rules, search rules, search rules, gathered c.in_ok-g.was (c.add_word.ensures.next _ i.6))

pub returns : goal.returns
returns g c = let i = c.loop-i.invariant in all_files i.6 i.0 c.loop-i-test.false
