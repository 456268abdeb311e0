-- `mirror` meets its contract. Assumes nothing.
use mathlib.Core.Path.{◌≡◌}
use lib.ListN.{length}
use Rattle.pass_set.specs.PassSet.{Sizes}
use Rattle.received.specs.Mirror.{mirrored_all}
use Rattle.received.proofs.Mirrors.{Passing}
use Rattle.received.proofs.mirror.Given as goal

abbrev pub invariant-loop-p : goal.invariant-loop-p
invariant-loop-p l =
    (length l.freqs ≡ length l.initial.freqs) × Sizes l.counts (length l.freqs) (length l.freqs) (length l.centers) × Passing l.counts l.centers l.p l.at l.freqs (mirrored_all l.counts l.centers l.initial.freqs)
