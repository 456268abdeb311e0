-- What loading and storing a pass set promise, with their answers as numbers of their own: a refusal's, or 0, and the sizes, or 0.
use Rattle.std.specs.Prelude.{◌≡◌, List, ℕ, ℤ, Float, Result, Ok, Err, length}
use Rattle.refusal.specs.Refusals.{status_of}
use Rattle.refusal.specs.declared.Refusal.{Refusal}
use Rattle.stored.specs.Sets.{loaded, Loads, stored, Stores}
use Rattle.stored.specs.declared.Loaded.{Loaded}

abbrev pub passes_in : Result Loaded Refusal → ℕ
passes_in (Ok s) = s.passes
passes_in (Err r) = 0

abbrev pub samples_in : Result Loaded Refusal → ℕ
samples_in (Ok s) = s.samples
samples_in (Err r) = 0

abbrev pub size_in : Result ℕ Refusal → ℕ
size_in (Ok n) = n
size_in (Err r) = 0

pub record LoadsTo (b counts counts' : List ℕ) (times times' : List ℤ) (freqs freqs' : List Float) (passes samples r : ℕ) : Type 0 where
  pub loads : Loads b counts counts' times times' freqs freqs' (loaded b (length counts) (length times) (length freqs))
  pub refusal : r ≡ status_of (loaded b (length counts) (length times) (length freqs))
  pub passes_are : passes ≡ passes_in (loaded b (length counts) (length times) (length freqs))
  pub samples_are : samples ≡ samples_in (loaded b (length counts) (length times) (length freqs))

pub record StoresTo (counts : List ℕ) (times : List ℤ) (freqs : List Float) (out out' : List ℕ) (size r : ℕ) : Type 0 where
  pub stores : Stores counts times freqs out out' (stored counts times freqs (length out))
  pub refusal : r ≡ status_of (stored counts times freqs (length out))
  pub size_is : size ≡ size_in (stored counts times freqs (length out))
