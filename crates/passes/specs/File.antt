-- What a pass file says: name, centre frequency and samples, or its refusal.
use Rattle.std.specs.Prelude.{ℕ, ◌+◌, ◌-◌, ◌≤◌, ◌≡◌, false, cond, List, [], ◌∷◌, ltb, ℤ, Float, length, take, drop, is_ok, Option, Some, None, Result, Ok, Err}
use Rattle.std.specs.Float.{binary64}
use Rattle.std.specs.Float.Ieee.{round}
use Rattle.std.proofs.lemmas.List.Edits.{sets}
use Rattle.refusal.specs.declared.Refusal.{Refusal}
use Rattle.refusal.specs.declared.Refusal.TheVariants.{Sizes, ShortMemory}
use Rattle.refusal.specs.Refusals as refusals
use Rattle.refusal.specs.Refusals.{first_of, ◌when◌}
use Rattle.passes.specs.Text.{Placed, lines}
use Rattle.passes.specs.Line.{part, line_of}
use Rattle.passes.specs.declared.pieces.Span.{Span}
use Rattle.passes.specs.declared.line.Line.{Line}
use Rattle.passes.specs.declared.line.Line.TheVariants.{Skipped, Name, Center, Sample}
use Rattle.passes.specs.declared.file.PassFile.{PassFile}

-- before the first line: no name is seen, and the centre is 150800000.0
unfoldable pub opening : PassFile
opening = record { name = None; center_freq = round binary64 false 150800000 1; count = 0 }

-- one line more, at a place in the file. The last name and the last frequency win.
abbrev pub advance : PassFile → ℕ → Line → PassFile
advance p at Skipped = p
advance p at (Name n) = record { name = Some (part (at + n.start) (at + n.end)); center_freq = p.center_freq; count = p.count }
advance p at (Center f) = record { name = p.name; center_freq = f; count = p.count }
advance p at (Sample t f) = record { name = p.name; center_freq = p.center_freq; count = p.count + 1 }

-- the same, or the line's refusal
abbrev pub advanced : PassFile → ℕ → Result Line Refusal → Result PassFile Refusal
advanced p at (Ok x) = Ok (advance p at x)
advanced p at (Err r) = Err r

-- all lines, up to the first that is refused
unfoldable pub after : Result PassFile Refusal → List Placed → Result PassFile Refusal
after p [] = p
after (Err r) (l ∷ ls) = Err r
after (Ok p) (l ∷ ls) = after (advanced p l.at (line_of l.bytes)) ls

-- the times of the samples, and their frequencies
abbrev pub time_before : Result Line Refusal → List ℤ → List ℤ
time_before (Ok Skipped) ts = ts
time_before (Err r) ts = ts
time_before (Ok (Name n)) ts = ts
time_before (Ok (Center f)) ts = ts
time_before (Ok (Sample t f)) ts = t ∷ ts

abbrev pub freq_before : Result Line Refusal → List Float → List Float
freq_before (Ok Skipped) fs = fs
freq_before (Err r) fs = fs
freq_before (Ok (Name n)) fs = fs
freq_before (Ok (Center f)) fs = fs
freq_before (Ok (Sample t f)) fs = f ∷ fs

unfoldable pub times_of : List Placed → List ℤ
times_of [] = []
times_of (l ∷ ls) = time_before (line_of l.bytes) (times_of ls)

unfoldable pub freqs_of : List Placed → List Float
freqs_of [] = []
freqs_of (l ∷ ls) = freq_before (line_of l.bytes) (freqs_of ls)

-- After the last line: 5 for over 4,096 samples, then 21 where `times` and `freqs`, of nt and nf places, have no room for them.
unfoldable pub room_refusal : PassFile → ℕ → ℕ → Option Refusal
room_refusal p nt nf =
    first_of (
    (Sizes when ltb 4096 p.count)
    ∷ (ShortMemory when ltb nt p.count)
    ∷ (ShortMemory when ltb nf p.count)
    ∷ [])

-- what the lines of the file say, or the refusal of the first offending one
abbrev pub scanned : List ℕ → Result PassFile Refusal
scanned file = after (Ok opening) (lines 0 file)

abbrev pub with_room : ℕ → ℕ → Result PassFile Refusal → Result PassFile Refusal
with_room nt nf (Ok p) = refusals.answer (room_refusal p nt nf) p
with_room nt nf (Err r) = Err r

abbrev pub answer : List ℕ → ℕ → ℕ → Result PassFile Refusal
answer file nt nf = with_room nt nf (scanned file)

-- the bytes at a part of the file; empty where it is no part of it
unfoldable pub name_at : List ℕ → Span → List ℕ
name_at file n = cond (ltb (length file) n.end) [] (cond (ltb n.end n.start) [] (take (n.end - n.start) (drop n.start file)))

-- empty where there is no part
abbrev pub part_in : List ℕ → Option Span → List ℕ
part_in file None = []
part_in file (Some n) = name_at file n

-- the name as a part of the file; empty where no name is seen, and where the answer is of another file
abbrev pub name_of : List ℕ → PassFile → List ℕ
name_of file r = part_in file r.name

-- before a line of n bytes at a place
pub record BeforeLine (file : List ℕ) (at n : ℕ) (s : PassFile) (times : List ℤ) (freqs : List Float) : Type 0 where
  pub room : at + n ≤ length file
  pub count : s.count ≤ at
  pub same : length times ≡ length freqs

-- the samples of a line stored from place k on; a place past the end takes none
pub record Stored (x : Result Line Refusal) (k : ℕ) (times times' : List ℤ) (freqs freqs' : List Float) : Type 0 where
  pub put_times : times' ≡ sets times k (time_before x [])
  pub put_freqs : freqs' ≡ sets freqs k (freq_before x [])

-- after it
pub record Stepped (file : List ℕ) (at n : ℕ) (s : PassFile) (times times' : List ℤ) (freqs freqs' : List Float) (r : Result PassFile Refusal) : Type 0 where
  pub is : r ≡ advanced s at (line_of (take n (drop at file)))
  pub stored : Stored (line_of (take n (drop at file))) s.count times times' freqs freqs'

-- what a call writes: this where it is accepted, else what was there
abbrev pub written : {A : Type 0} → Result PassFile Refusal → A → A → A
written r new old = cond (is_ok r) new old

-- after the last line, or the first that is refused
pub record Scan (file : List ℕ) (times times' : List ℤ) (freqs freqs' : List Float) (r : Result PassFile Refusal) : Type 0 where
  pub says : r ≡ scanned file
  pub put_times : (p : PassFile) → r ≡ Ok p → times' ≡ sets times 0 (times_of (lines 0 file))
  pub put_freqs : (p : PassFile) → r ≡ Ok p → freqs' ≡ sets freqs 0 (freqs_of (lines 0 file))

-- What `read_pass_file` promises: the answer; and the samples from the first place on, or nothing written where it is refused.
pub record Reads (file : List ℕ) (times times' : List ℤ) (freqs freqs' : List Float) (r : Result PassFile Refusal) : Type 0 where
  pub says : r ≡ answer file (length times) (length freqs)
  pub put_times : times' ≡ written r (sets times 0 (times_of (lines 0 file))) times
  pub put_freqs : freqs' ≡ written r (sets freqs 0 (freqs_of (lines 0 file))) freqs
