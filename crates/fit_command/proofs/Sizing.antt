-- The sizes of a gathered set agree. Assumes nothing.
use mathlib.Core.Path.{◌≡◌, sym, ap, ◌∙◌}
use mathlib.Core.List.{List}
use Prim.Native.Nat.{ℕ, ◌≤◌}
use native.Mathlib.Omega.{arith}
use lib.ListN.{length, take}
use lib.Seq.{length-take-le}
use Rattle.pass_set.specs.PassSet.{total, Sizes}
use Rattle.command.specs.Gather.{Arrays, Holds}
use Rattle.command.specs.declared.gather.Gathered.{Gathered}

pub sizes_of : {files : List (List ℕ)} {g : Gathered} {a : Arrays} → Holds files g a → length a.counts ≤ 16 → length a.times ≤ 4096
    → Sizes (take g.passes a.counts) (length (take g.samples a.times)) (length (take g.samples a.freqs)) (length (take g.passes a.centers))
sizes_of {files} {g} {a} h c t =
    let n : length (take g.passes a.counts) ≡ g.passes = length-take-le g.passes a.counts h.counted.room in
    let m : length (take g.passes a.centers) ≡ g.passes = length-take-le g.passes a.centers h.centred.room in
    let s : length (take g.samples a.times) ≡ g.samples = length-take-le g.samples a.times h.timed.room in
    let f : length (take g.samples a.freqs) ≡ g.samples = length-take-le g.samples a.freqs h.heard.room in
    record {
      few = omega (arith, n, h.counted.room);
      centred = m ∙ sym n;
      small = omega (arith, s, h.timed.room);
      pairs = f ∙ sym s;
      whole = ap total h.counted.is ∙ h.sized ∙ sym s;
    }
