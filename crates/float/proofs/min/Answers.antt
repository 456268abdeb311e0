use Rattle.std.proofs.Common.{◌≡◌, ◌||◌}
use lib.Ieee.{lt, is_nan}
use Rattle.float.specs.Ops.{min_of}
use Rattle.float.proofs.min.Goals.{then-is_nan, else-is_nan}
use Rattle.float.proofs.min.Goals as goal

pub returns-then-w-v : goal.returns-then-w-v
unfolding min_of
returns-then-w-v c =
    let t : c.if-is_nan.value ≡ (is_nan c.args.v || lt c.args.w c.args.v) = elim c.if-is_nan.branch [
      | then-is_nan w ↦ simp (w.value-is, ← c.is_nan.ensures.value, w.if-is_nan.true)
      | else-is_nan w ↦ simp (w.value-is, ← c.is_nan.ensures.value, w.if-is_nan.false)
    ] in
    simp (← t, c.if-w-v.true)

pub returns-else-w-v : goal.returns-else-w-v
unfolding min_of
returns-else-w-v c =
    let t : c.if-is_nan.value ≡ (is_nan c.args.v || lt c.args.w c.args.v) = elim c.if-is_nan.branch [
      | then-is_nan w ↦ simp (w.value-is, ← c.is_nan.ensures.value, w.if-is_nan.true)
      | else-is_nan w ↦ simp (w.value-is, ← c.is_nan.ensures.value, w.if-is_nan.false)
    ] in
    simp (← t, c.if-w-v.false)
