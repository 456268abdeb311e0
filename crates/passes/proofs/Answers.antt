-- The checks after the last line, and the answer. Assumes nothing.
use mathlib.Core.Path.{◌≡◌, refl, sym, ap, ◌∙◌, subst}
use mathlib.Core.List.{List}
use Prim.Native.Nat.{ℕ, ◌≤◌, ◌<◌}
use Rattle.std.proofs.Common.{Result, Ok, Err, Option, Some, None}
use lib.IntN.{ℤ}
use lib.Ieee.{Float}
use lib.ListN.{length}
use borrow.Author.Tests.{lt-ltb, le-ltb}
use Rattle.refusal.specs.declared.Refusal.{Refusal}
use Rattle.refusal.specs.declared.Refusal.TheVariants.{Sizes, ShortMemory}
use Rattle.refusal.specs.Refusals.{answer as unless}
use Rattle.passes.specs.File.{room_refusal, scanned, with_room, answer, Reads}
use Rattle.passes.specs.declared.file.PassFile.{PassFile}
use Rattle.passes.proofs.Files.{Filled}

-- ---- the room's refusal, by the tests
module _ (p : PassFile) (nt nf : ℕ) where
  from_count : 4096 < p.count → room_refusal p nt nf ≡ Some Sizes
  unfolding room_refusal
  from_count b = simp (lt-ltb 4096 p.count b)

  from_times : p.count ≤ 4096 → nt < p.count → room_refusal p nt nf ≡ Some ShortMemory
  unfolding room_refusal
  from_times b c = simp (le-ltb 4096 p.count b, lt-ltb nt p.count c)

  from_freqs : p.count ≤ 4096 → p.count ≤ nt → nf < p.count → room_refusal p nt nf ≡ Some ShortMemory
  unfolding room_refusal
  from_freqs b c d = simp (le-ltb 4096 p.count b, le-ltb nt p.count c, lt-ltb nf p.count d)

  from_none : p.count ≤ 4096 → p.count ≤ nt → p.count ≤ nf → room_refusal p nt nf ≡ None
  unfolding room_refusal
  from_none b c d = simp (le-ltb 4096 p.count b, le-ltb nt p.count c, le-ltb nf p.count d)

-- ---- the answer
module _ (file : List ℕ) {r : Result PassFile Refusal} (h : r ≡ scanned file) (times : List ℤ) (freqs : List Float) where
  -- a refusal writes nothing
  pub refuse_line : {k : Refusal} {z : Result PassFile Refusal} → r ≡ Err k → z ≡ Err k → Reads file times times freqs freqs z
  refuse_line {k = k} e g = subst (Reads file times times freqs freqs) (sym g) (record { says = ap (with_room (length times) (length freqs)) (sym e ∙ h); put_times = refl; put_freqs = refl })

  module _ {s : PassFile} (e : r ≡ Ok s) where
    roomed : {o : Option Refusal} → room_refusal s (length times) (length freqs) ≡ o → unless o s ≡ answer file (length times) (length freqs)
    roomed g = ap (λ (o : Option Refusal). unless o s) (sym g) ∙ ap (with_room (length times) (length freqs)) (sym e ∙ h)

    refuses : {k : Refusal} → room_refusal s (length times) (length freqs) ≡ Some k → Reads file times times freqs freqs (Err k)
    refuses g = record { says = roomed g; put_times = refl; put_freqs = refl }

    pub refuse_count : 4096 < s.count → Reads file times times freqs freqs (Err Sizes)
    refuse_count b = refuses (from_count s (length times) (length freqs) b)

    pub refuse_times : s.count ≤ 4096 → length times < s.count → Reads file times times freqs freqs (Err ShortMemory)
    refuse_times b c = refuses (from_times s (length times) (length freqs) b c)

    pub refuse_freqs : s.count ≤ 4096 → s.count ≤ length times → length freqs < s.count → Reads file times times freqs freqs (Err ShortMemory)
    refuse_freqs b c d = refuses (from_freqs s (length times) (length freqs) b c d)

    pub accept : {times' : List ℤ} {freqs' : List Float} → Filled file times times' freqs freqs' → s.count ≤ 4096 → s.count ≤ length times → s.count ≤ length freqs → Reads file times times' freqs freqs' (Ok s)
    accept f b c d = record { says = roomed (from_none s (length times) (length freqs) b c d); put_times = f.put_times; put_freqs = f.put_freqs }
