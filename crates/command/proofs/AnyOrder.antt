-- The words' order does not change what is fitted: files whose first moments differ give the same pass set by time, and the same
-- name, in whatever order they come. Assumes nothing.
use Rattle.std.proofs.Common.{◌≡◌, ℕ, suc, List, [], ◌∷◌, map, length, ℤ, sym, refl, ap, ◌∙◌, subst, ap₂, true, true≢false, Result, Ok, Err}
use Rattle.std.specs.Prelude.{is_ok}
use mathlib.Core.List.{flat_map, Permᴰ}
use lib.Ieee.{Float}
use Rattle.passes.specs.Text.{Placed, lines}
use Rattle.passes.specs.Line.{line_of}
use Rattle.passes.specs.File.{opening, scanned, times_of, freqs_of, time_before, freq_before}
use Rattle.passes.specs.declared.line.Line.{Line}
use Rattle.passes.specs.declared.line.Line.TheVariants.{Skipped, Name, Center, Sample}
use Rattle.refusal.specs.declared.Refusal.{Refusal}
use Rattle.passes.specs.declared.file.PassFile.{PassFile}
use Rattle.passes.proofs.Files.{counted}
use Rattle.ordering.specs.Sort.{Unlike, pick}
use Rattle.ordering.specs.Order.{PassSet, pass_set, in_time}
use Rattle.ordering.proofs.Sorts.{any_order}
use Rattle.ordering.proofs.Sets.{set_of, any_words}
use Rattle.command.specs.Gather.{accepted_or, count_in, center_in, times_in, freqs_in, key_in, has_name, namer}

-- the pass set of files in their order, as `Holds` has it
abbrev pub set_in : List (List ℕ) → PassSet
set_in files = pass_set (map count_in files) (flat_map times_in files) (flat_map freqs_in files) (map center_in files)

-- no file is refused
pub data Accepted : List (List ℕ) → Type 0 where
  none : Accepted []
  also : {file : List ℕ} {files : List (List ℕ)} → is_ok (scanned file) ≡ true → Accepted files → Accepted (file ∷ files)

moved : {l m : List (List ℕ)} → Permᴰ l m → Accepted l → Accepted m
moved Permᴰ.nil a = a
moved (Permᴰ.cons e p) (Accepted.also h a) = Accepted.also (subst (λ (f : List ℕ). is_ok (scanned f) ≡ true) e h) (moved p a)
moved (Permᴰ.swap e f) (Accepted.also h (Accepted.also k a)) =
    Accepted.also (subst (λ (g : List ℕ). is_ok (scanned g) ≡ true) f k) (Accepted.also (subst (λ (g : List ℕ). is_ok (scanned g) ≡ true) e h) a)
moved (Permᴰ.trans p q) a = moved q (moved p a)

-- a frequency for each time
pair : (l : Result Line Refusal) (ts : List ℤ) (fs : List Float) → length fs ≡ length ts → length (freq_before l fs) ≡ length (time_before l ts)
pair (Ok Skipped) ts fs e = e
pair (Err r) ts fs e = e
pair (Ok (Name n)) ts fs e = e
pair (Ok (Center f)) ts fs e = e
pair (Ok (Sample t f)) ts fs e = ap suc e

pairs : (ls : List Placed) → length (freqs_of ls) ≡ length (times_of ls)
unfolding freqs_of times_of
pairs [] = refl
pairs (l ∷ ls) = pair (line_of l.bytes) (times_of ls) (freqs_of ls) (pairs ls)

abbrev size_in : List ℕ → ℕ
size_in file = length (times_in file)

-- what an accepted file says
given : (r : Result PassFile Refusal) → is_ok r ≡ true → Ok (accepted_or opening r) ≡ r
given (Ok p) h = refl
given (Err k) h = absurd (true≢false (sym h))

counts_are : {files : List (List ℕ)} → Accepted files → map count_in files ≡ map size_in files
counts_are Accepted.none = refl
counts_are (Accepted.also {file = file} h a) = ap₂ ◌∷◌ (counted file (given (scanned file) h)).times (counts_are a)

set_is : {files : List (List ℕ)} → Accepted files → set_in files ≡ set_of times_in freqs_in center_in size_in (λ f. refl) (λ f. pairs (lines 0 f)) [] files
unfolding set_of
set_is {files} a = ap (λ (c : List ℕ). pass_set c (flat_map times_in files) (flat_map freqs_in files) (map center_in files)) (counts_are a)

pub same_set : {files files' : List (List ℕ)} → Permᴰ files files' → Unlike key_in files → Accepted files → in_time (set_in files) ≡ in_time (set_in files')
same_set p u a =
    ap in_time (set_is a)
    ∙ any_words times_in freqs_in center_in size_in (λ f. refl) (λ f. pairs (lines 0 f)) [] p u
    ∙ sym (ap in_time (set_is (moved p a)))

pub same_namer : {files files' : List (List ℕ)} → Permᴰ files files' → Unlike key_in files → namer files ≡ namer files'
unfolding namer
same_namer p u = ap (pick key_in has_name) (any_order key_in p u)
