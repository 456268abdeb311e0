-- `mirror_pass` meets its contract. Assumes nothing.
use mathlib.Core.Path.{◌≡◌}
use mathlib.Core.List.{map}
use lib.ListN.{length}
use Rattle.received.specs.Mirror.{mirrored}
use Rattle.received.proofs.Mirrors.{Mirroring}
use Rattle.received.proofs.mirror_pass.Given as goal

abbrev pub invariant-loop-f : goal.invariant-loop-f
invariant-loop-f l = (length l.freqs ≡ length l.initial.freqs) × Mirroring l.center l.f-index l.freqs (map (mirrored l.center) l.initial.freqs)
