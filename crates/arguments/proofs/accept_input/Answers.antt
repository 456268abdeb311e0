-- `accept_input` meets its contract. Assumes nothing.
use mathlib.Core.Path.{◌≡◌, sym, ◌∙◌}
use mathlib.Core.Bool.{Bool, false, not}
use mathlib.Core.List.{List}
use Prim.Native.Nat.{ℕ, ◌≤◌}
use native.Mathlib.Omega.{arith}
use borrow.Author.Tests.{not-false, lt-ltb, le-ltb}
use lib.ListN.{length}
use Rattle.pass_set.specs.PassSet.{sizes_agree}
use Rattle.pass_set.proofs.Laws as set
use Rattle.arguments.specs.Refusals.{input_refusal_of}
use Rattle.arguments.proofs.Laws.{few_kept}
use Rattle.std.proofs.Common.{ap, not}
use Rattle.arguments.proofs.accept_input.Goals as goal

few : (counts : List ℕ) (times freqs centers : ℕ) (b : Bool) → b ≡ sizes_agree counts times freqs centers → not b ≡ false → length counts ≤ 16
few counts times freqs centers b e h = (set.sizes (sym e ∙ not-false b h)).few

pub returns-then-not-sizes_agree : goal.returns-then-not-sizes_agree
unfolding input_refusal_of
returns-then-not-sizes_agree c = simp (← c.sizes_agree.ensures, c.if-not-sizes_agree.true)

pub returns-then-not-all_in_range : goal.returns-then-not-all_in_range
unfolding input_refusal_of
returns-then-not-all_in_range c =
    simp (
      ← c.sizes_agree.ensures,
      c.if-not-sizes_agree.false,
      ← c.all_in_range.ensures,
      c.if-not-all_in_range.true,
    )

pub returns-then-nan_argument : goal.returns-then-nan_argument
unfolding input_refusal_of
returns-then-nan_argument c =
    simp (
      ← c.sizes_agree.ensures,
      c.if-not-sizes_agree.false,
      ← c.all_in_range.ensures,
      c.if-not-all_in_range.false,
      ← c.nan_argument.ensures,
      c.if-nan_argument.true,
    )

pub returns-then-out_of_range : goal.returns-then-out_of_range
unfolding input_refusal_of
returns-then-out_of_range c =
    simp (
      ← c.sizes_agree.ensures,
      c.if-not-sizes_agree.false,
      ← c.all_in_range.ensures,
      c.if-not-all_in_range.false,
      ← c.nan_argument.ensures,
      c.if-nan_argument.false,
      ← c.out_of_range.ensures,
      c.if-out_of_range.true,
    )

pub returns-then-any_nan : goal.returns-then-any_nan
unfolding input_refusal_of
returns-then-any_nan c =
    simp (
      ← c.sizes_agree.ensures,
      c.if-not-sizes_agree.false,
      ← c.all_in_range.ensures,
      c.if-not-all_in_range.false,
      ← c.nan_argument.ensures,
      c.if-nan_argument.false,
      ← c.out_of_range.ensures,
      c.if-out_of_range.false,
      ← c.any_nan.ensures,
      c.if-any_nan.true,
    )

pub non_empty-passes-requires : goal.non_empty-passes-requires
non_empty-passes-requires c =
    few _ _ _ _ c.sizes_agree.result c.sizes_agree.ensures (ap not c.if-not-sizes_agree.false)

pub returns-then-passes-lt-LEAST_PASSES : goal.returns-then-passes-lt-LEAST_PASSES
unfolding input_refusal_of
returns-then-passes-lt-LEAST_PASSES c =
    simp (
      ← c.sizes_agree.ensures,
      c.if-not-sizes_agree.false,
      ← c.all_in_range.ensures,
      c.if-not-all_in_range.false,
      ← c.nan_argument.ensures,
      c.if-nan_argument.false,
      ← c.out_of_range.ensures,
      c.if-out_of_range.false,
      ← c.any_nan.ensures,
      c.if-any_nan.false,
      ← c.non_empty-passes.ensures.number,
      lt-ltb _ _ c.if-passes-lt-LEAST_PASSES.true,
    )

pub overflow_add-passes : goal.overflow_add-passes
overflow_add-passes c =
    let counts = c.args.counts.now in
    record { fits = omega (arith, c.non_empty-passes.ensures.number, few_kept counts, few counts _ _ _ c.sizes_agree.result c.sizes_agree.ensures (ap not c.if-not-sizes_agree.false)) }

pub returns-then-times-passes : goal.returns-then-times-passes
unfolding input_refusal_of
returns-then-times-passes c =
    simp (
      ← c.sizes_agree.ensures,
      c.if-not-sizes_agree.false,
      ← c.all_in_range.ensures,
      c.if-not-all_in_range.false,
      ← c.nan_argument.ensures,
      c.if-nan_argument.false,
      ← c.out_of_range.ensures,
      c.if-out_of_range.false,
      ← c.any_nan.ensures,
      c.if-any_nan.false,
      ← c.non_empty-passes.ensures.number,
      le-ltb _ _ c.if-passes-lt-LEAST_PASSES.false,
      lt-ltb _ _ c.if-times-passes.true,
    )

pub returns : goal.returns
unfolding input_refusal_of
returns c =
    simp (
      ← c.sizes_agree.ensures,
      c.if-not-sizes_agree.false,
      ← c.all_in_range.ensures,
      c.if-not-all_in_range.false,
      ← c.nan_argument.ensures,
      c.if-nan_argument.false,
      ← c.out_of_range.ensures,
      c.if-out_of_range.false,
      ← c.any_nan.ensures,
      c.if-any_nan.false,
      ← c.non_empty-passes.ensures.number,
      le-ltb _ _ c.if-passes-lt-LEAST_PASSES.false,
      le-ltb _ _ c.if-times-passes.false,
    )
