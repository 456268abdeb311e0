-- `is_off_ground` meets its contract. Assumes nothing.
use mathlib.Core.Path.{◌≡◌, ◌∙◌}
use mathlib.Core.Bool.{true, false, ◌||◌}
use lib.Ieee.{Float, lt}
use Rattle.float.specs.Ops.{bits}
use Rattle.command_words.specs.Words.{nearest, nearest_bits, farthest, farthest_bits, off_ground}
use Rattle.command_words.proofs.is_off_ground.Goals as goal

near : {d e : Float} → d ≡ e → lt d (bits 0x4158085800000000) ≡ true → true ≡ (lt e nearest || lt farthest e)
near {d} {e} p h = rw (← nearest_bits, ← p, h)

far : {d e : Float} → d ≡ e → lt d (bits 0x4158085800000000) ≡ false → lt (bits 0x4158cba800000000) d ≡ (lt e nearest || lt farthest e)
far {d} {e} p h = rw (← nearest_bits, ← farthest_bits, ← p, h)

pub returns-then-d : goal.returns-then-d
unfolding off_ground
returns-then-d c = c.if-d.true ∙ near c.sqrt-d.ensures c.if-d.true

pub returns-else-d : goal.returns-else-d
unfolding off_ground
returns-else-d c = far c.sqrt-d.ensures c.if-d.false
