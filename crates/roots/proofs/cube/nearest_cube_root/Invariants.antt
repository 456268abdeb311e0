-- `roots::cube::nearest_cube_root` meets its contract. The number sought lies from `low` up and below `high`. Assumes nothing.
use Prim.Native.Nat.{ℕ, ◌-◌, ◌*◌, ◌^◌, ◌≤◌, ◌<◌}
use Rattle.roots.specs.Power.{cube}
use Rattle.roots.proofs.cube.nearest_cube_root.Given as goal

pub record Between (m low high : ℕ) : Type 0 where
  pub less : low < high
  pub least : 4503599627370496 ≤ low
  pub most : high ≤ 9007199254740993
  pub below : cube (low * 2 - 1) ≤ m * 2 ^ 107
  pub above : m * 2 ^ 107 < cube (high * 2 - 1)

abbrev pub invariant-loop-high : goal.invariant-loop-high
invariant-loop-high l = Between l.m l.low l.high

abbrev pub decreases-loop-high : goal.decreases-loop-high
decreases-loop-high l = l.high - l.low
