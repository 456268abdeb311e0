-- `roots::corrected_root` meets its contract: the tests are those of `proofs/Square.antt`. Assumes nothing.
use mathlib.Core.Path.{◌≡◌}
use Prim.Native.Nat.{ℕ, ◌+◌, ◌*◌, ◌%◌, ◌^◌, ◌<◌}
use native.Mathlib.Omega.{arith}
use Rattle.roots.proofs.Square.{by_rest, rise, fall}
use Rattle.roots.proofs.corrected_root.Goals.{then-n-square-2, else-n-square-2}
use Rattle.roots.proofs.corrected_root.Goals as goal

exact : (m : ℕ) → m < 2 ^ 64 → m * 2 ^ 52 % 2 ^ 128 ≡ m * 2 ^ 52
exact m h = omega arith

pub returns-then-n-wide-2 : goal.returns-then-n-wide-2
returns-then-n-wide-2 c =
    let n = exact c.args.m c.ranges.m.fits in
    fall (c.args.m * 2 ^ 52) (c.args.estimate % 2 ^ 52 + 2 ^ 52) (omega arith) (simp (c.from-n.ensures, c.from-wide.ensures, n) at c.if-n-wide.false) (simp (c.from-n.ensures, c.from-wide.ensures, n) at c.if-n-wide-2.true)

pub returns-else-n-wide-2 : goal.returns-else-n-wide-2
returns-else-n-wide-2 c =
    let n = exact c.args.m c.ranges.m.fits in
    elim c.if-n-square-2.branch [
      | then-n-square-2 w ↦ rw w.up-is (rise (c.args.m * 2 ^ 52) (c.args.estimate % 2 ^ 52 + 2 ^ 52)
          (simp (c.from-n.ensures, c.from-wide.ensures, n) at w.if-n-square-2.true) (simp (c.from-n.ensures, c.from-wide.ensures, n) at c.if-n-square.false))
      | else-n-square-2 w ↦ rw w.up-is (by_rest (c.args.m * 2 ^ 52) (c.args.estimate % 2 ^ 52 + 2 ^ 52) (omega arith)
          (simp (c.from-n.ensures, c.from-wide.ensures, n) at c.if-n-wide-2.false) (simp (c.from-n.ensures, c.from-wide.ensures, n) at w.if-n-square-2.false))
    ]
