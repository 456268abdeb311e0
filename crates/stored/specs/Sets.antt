-- A pass set as stored bytes: u32 pass count, one u32 sample count per pass, all times (i64 nanoseconds since 1970), all
-- frequencies (f64 bits), little-endian, nothing after (document 01).
use Rattle.std.specs.Prelude.{ℕ, ◌+◌, ◌*◌, ◌≤◌, ◌≡◌, Bool, not, ◌&&◌, cond, List, [], ◌∷◌, ◌++◌, leb, ltb, eqb, ℤ, Float, Option, Some, None, Result, is_ok, length, drop}
use Rattle.std.specs.Float.{binary64}
use Rattle.std.specs.Float.Ieee.{of_bits, to_bits}
use Rattle.std.proofs.lemmas.List.Edits.{sets}
use Rattle.refusal.specs.Refusals.{◌when◌, first_of, answer}
use Rattle.refusal.specs.declared.Refusal.{Refusal}
use Rattle.refusal.specs.declared.Refusal.TheVariants.{MomentRange, Sizes, ShortMemory}
use Rattle.moment.specs.Sample.{times_in_range}
use Rattle.pass_set.specs.PassSet.{total, sizes_agree}
use Rattle.stored.specs.Numbers.{little_endian, low_bytes, time_bits, time_of, numbers_in, written}
use Rattle.stored.specs.declared.Loaded.{Loaded}

-- ---- from bytes

abbrev pub passes_in : List ℕ → ℕ
passes_in b = little_endian 4 b

abbrev pub counts_in : List ℕ → List ℕ
counts_in b = numbers_in 4 (λ n. n) (passes_in b) (drop 4 b)

abbrev pub samples_in : List ℕ → ℕ
samples_in b = total (counts_in b)

abbrev pub times_in : List ℕ → List ℤ
times_in b = numbers_in 8 time_of (samples_in b) (drop (4 + 4 * passes_in b) b)

abbrev pub freqs_in : List ℕ → List Float
freqs_in b = numbers_in 8 (of_bits binary64) (samples_in b) (drop (4 + 4 * passes_in b + 8 * samples_in b) b)

-- at most 16 passes and 4,096 samples, and as many bytes as they take
unfoldable pub sized_right : List ℕ → Bool
sized_right b = leb (passes_in b) 16 && (leb (samples_in b) 4096 && eqb (length b) (4 + 4 * passes_in b + 16 * samples_in b))

abbrev pub set_in : List ℕ → Loaded
set_in b = record { passes = passes_in b; samples = samples_in b }

-- the sizes, where they are right
unfoldable pub sizes_in : List ℕ → Option Loaded
sizes_in b = cond (sized_right b) (Some (set_in b)) None

-- the bytes are as many as p passes and s samples take, and these are no more than a set has
pub record Room (b : List ℕ) (p s : ℕ) : Type 0 where
  pub few : p ≤ 16
  pub small : s ≤ 4096
  pub size : length b ≡ 4 + 4 * p + 16 * s

-- for outputs of nc, nt and nf places
unfoldable pub load_refusal : List ℕ → ℕ → ℕ → ℕ → Option Refusal
load_refusal b nc nt nf =
    first_of (
    (Sizes when not (sized_right b))
    ∷ (MomentRange when not (times_in_range (times_in b)))
    ∷ (ShortMemory when ltb nc (passes_in b))
    ∷ (ShortMemory when ltb nt (samples_in b))
    ∷ (ShortMemory when ltb nf (samples_in b))
    ∷ [])

unfoldable pub loaded : List ℕ → ℕ → ℕ → ℕ → Result Loaded Refusal
loaded b nc nt nf = answer (load_refusal b nc nt nf) (set_in b)

-- what `load` promises
pub record Loads (b counts counts' : List ℕ) (times times' : List ℤ) (freqs freqs' : List Float) (r : Result Loaded Refusal) : Type 0 where
  pub says : r ≡ loaded b (length counts) (length times) (length freqs)
  pub put_counts : counts' ≡ cond (is_ok r) (sets counts 0 (counts_in b)) counts
  pub put_times : times' ≡ cond (is_ok r) (sets times 0 (times_in b)) times
  pub put_freqs : freqs' ≡ cond (is_ok r) (sets freqs 0 (freqs_in b)) freqs

-- ---- to bytes

unfoldable pub bytes_of : List ℕ → List ℤ → List Float → List ℕ
bytes_of counts times freqs =
    low_bytes 4 (length counts) ++ (written 4 (λ n. n) counts ++ (written 8 time_bits times ++ written 8 (to_bits binary64) freqs))

abbrev pub size_of : List ℕ → List ℤ → ℕ
size_of counts times = 4 + 4 * length counts + 16 * length times

-- for an output of n bytes
unfoldable pub store_refusal : List ℕ → List ℤ → List Float → ℕ → Option Refusal
store_refusal counts times freqs n =
    first_of (
    (MomentRange when not (times_in_range times))
    ∷ (Sizes when not (sizes_agree counts (length times) (length freqs) (length counts)))
    ∷ (ShortMemory when ltb n (size_of counts times))
    ∷ [])

unfoldable pub stored : List ℕ → List ℤ → List Float → ℕ → Result ℕ Refusal
stored counts times freqs n = answer (store_refusal counts times freqs n) (size_of counts times)

-- what `store` promises
pub record Stores (counts : List ℕ) (times : List ℤ) (freqs : List Float) (out out' : List ℕ) (r : Result ℕ Refusal) : Type 0 where
  pub says : r ≡ stored counts times freqs (length out)
  pub put : out' ≡ cond (is_ok r) (sets out 0 (bytes_of counts times freqs)) out
