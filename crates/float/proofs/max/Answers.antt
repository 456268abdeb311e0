use Rattle.std.proofs.Common.{◌≡◌, ◌||◌}
use lib.Ieee.{lt, is_nan}
use Rattle.float.specs.Ops.{max_of}
use Rattle.float.proofs.max.Goals.{then-is_nan, else-is_nan}
use Rattle.float.proofs.max.Goals as goal

pub returns-then-v-w : goal.returns-then-v-w
unfolding max_of
returns-then-v-w c =
    let t : c.if-is_nan.value ≡ (is_nan c.args.v || lt c.args.v c.args.w) = elim c.if-is_nan.branch [
      | then-is_nan w ↦ simp (w.value-is, ← c.is_nan.ensures.value, w.if-is_nan.true)
      | else-is_nan w ↦ simp (w.value-is, ← c.is_nan.ensures.value, w.if-is_nan.false)
    ] in
    simp (← t, c.if-v-w.true)

pub returns-else-v-w : goal.returns-else-v-w
unfolding max_of
returns-else-v-w c =
    let t : c.if-is_nan.value ≡ (is_nan c.args.v || lt c.args.v c.args.w) = elim c.if-is_nan.branch [
      | then-is_nan w ↦ simp (w.value-is, ← c.is_nan.ensures.value, w.if-is_nan.true)
      | else-is_nan w ↦ simp (w.value-is, ← c.is_nan.ensures.value, w.if-is_nan.false)
    ] in
    simp (← t, c.if-v-w.false)
