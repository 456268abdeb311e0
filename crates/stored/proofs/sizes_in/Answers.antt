-- `stored::sizes_in` meets its contract. Assumes nothing.
use mathlib.Core.Path.{◌∙◌}
use Prim.Native.Nat.{◌+◌, ◌*◌}
use native.Mathlib.Omega.{arith}
use mathlib.Core.Path.{sym}
use Rattle.std.specs.Prelude.{Some}
use Rattle.stored.proofs.Whole.{short, many_passes, many_samples, other_length, whole, none, some, counted}
use Rattle.stored.proofs.sizes_in.Goals.{then-passes-gt-MAX_PASSES-via-then-passes-gt-MAX_PASSES, then-passes-gt-MAX_PASSES-via-else-passes-gt-MAX_PASSES+then-b-passes, then-samples-gt-MOST_SAMPLES-via-then-samples-gt-MOST_SAMPLES, then-samples-gt-MOST_SAMPLES-via-else-samples-gt-MOST_SAMPLES+then-b-passes-2}
use Rattle.stored.proofs.sizes_in.Goals as goal

pub returns-then-b-lt4-clause-value : goal.returns-then-b-lt4-clause-value
returns-then-b-lt4-clause-value c = none _ (short c.args.b.now (omega arith))

pub returns-then-passes-gt-MAX_PASSES-clause-value : goal.returns-then-passes-gt-MAX_PASSES-clause-value
returns-then-passes-gt-MAX_PASSES-clause-value c =
    let e = c.word_at-passes.ensures.is in
    elim c.then-passes-gt-MAX_PASSES.branch [
      | then-passes-gt-MAX_PASSES-via-then-passes-gt-MAX_PASSES w ↦ none _ (many_passes c.args.b.now (omega (arith, e, w.if-passes-gt-MAX_PASSES.true)))
      | then-passes-gt-MAX_PASSES-via-else-passes-gt-MAX_PASSES+then-b-passes w ↦ none _ (short c.args.b.now (omega (arith, e, w.if-b-passes.true)))
    ]

pub returns-then-samples-gt-MOST_SAMPLES-clause-value : goal.returns-then-samples-gt-MOST_SAMPLES-clause-value
returns-then-samples-gt-MOST_SAMPLES-clause-value c =
    let b = c.args.b.now in
    let k = counted b c.word_at-passes.ensures.is c.if-b-passes.false c.as_chunks.ensures.front c.total_of-samples.ensures in
    elim c.then-samples-gt-MOST_SAMPLES.branch [
      | then-samples-gt-MOST_SAMPLES-via-then-samples-gt-MOST_SAMPLES w ↦ none b (many_samples b (omega (arith, k.samples, w.if-samples-gt-MOST_SAMPLES.true)))
      | then-samples-gt-MOST_SAMPLES-via-else-samples-gt-MOST_SAMPLES+then-b-passes-2 w ↦ none b (other_length b (omega (arith, k.passes, c.if-passes-gt-MAX_PASSES.false)) (omega (arith, k.samples, w.if-samples-gt-MOST_SAMPLES.false))
          (λ q. w.if-b-passes-2.true (q ∙ (λ j. 4 + 4 * sym k.passes j + 16 * sym k.samples j))))
    ]

pub returns-clause-value : goal.returns-clause-value
returns-clause-value c =
    let b = c.args.b.now in
    let k = counted b c.word_at-passes.ensures.is c.if-b-passes.false c.as_chunks.ensures.front c.total_of-samples.ensures in
    (λ j. Some (record { passes = k.passes j; samples = k.samples j }))
    ∙ some b (whole b (omega (arith, k.passes, c.if-passes-gt-MAX_PASSES.false)) (omega (arith, k.samples, c.if-samples-gt-MOST_SAMPLES.false)) (omega (arith, k.passes, k.samples, c.if-b-passes-2.false)))
