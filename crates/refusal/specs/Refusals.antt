-- The refusals that the code names, by number, as a list of checks in a call's order, and as an answer.
use Rattle.std.specs.Prelude.{Bool, cond, List, [], ◌∷◌, ℕ, Option, Some, None, Result, Ok, Err}
use Rattle.refusal.specs.Numbers as numbers
use Rattle.refusal.specs.declared.Refusal.{Refusal}
use Rattle.refusal.specs.declared.Refusal.TheVariants.{NonAscii, LongLine, NumberSize, MomentRange, Sizes, NanArgument, InitialRange, NanFrequency, FewPasses, FewSamples, Unprintable, Limits, PositionRange, LineColumns, LineChecksum, Eccentric, ShortMemory, SmallPivot, FarMoment, LargeSum, LargeOffset}

-- a refusal's number in the documents
abbrev pub number_of : Refusal → ℕ
number_of NonAscii = numbers.non_ascii
number_of LongLine = numbers.long_line
number_of NumberSize = numbers.number_size
number_of MomentRange = numbers.moment_range
number_of Sizes = numbers.sizes
number_of NanArgument = numbers.nan_argument_lem
number_of InitialRange = numbers.initial_range
number_of NanFrequency = numbers.nan_frequency
number_of FewPasses = numbers.few_passes
number_of FewSamples = numbers.few_samples
number_of Unprintable = numbers.unprintable
number_of Limits = numbers.limits
number_of PositionRange = numbers.position_range
number_of LineColumns = numbers.line_columns
number_of LineChecksum = numbers.line_checksum
number_of Eccentric = numbers.eccentric
number_of ShortMemory = numbers.short_memory
number_of SmallPivot = numbers.small_pivot
number_of FarMoment = numbers.far_moment
number_of LargeSum = numbers.large_sum
number_of LargeOffset = numbers.large_offset

-- a refusal, and its condition
pub record Check : Type 0 where
  pub refusal : Refusal
  pub condition : Bool

infix 60 ◌when◌
abbrev pub ◌when◌ : Refusal → Bool → Check
r when b = record { refusal = r; condition = b }

-- the first whose condition holds
abbrev pub first_of : List Check → Option Refusal
first_of [] = None
first_of (c ∷ cs) = cond c.condition (Some c.refusal) (first_of cs)

-- its number, or 0 where there is none
abbrev pub number_or_zero : Option Refusal → ℕ
number_or_zero None = 0
number_or_zero (Some r) = number_of r

-- a call's answer: refused, or this one
abbrev pub answer : {A : Type 0} → Option Refusal → A → Result A Refusal
answer None a = Ok a
answer (Some r) a = Err r

-- the same where what is worked out after may be refused too
abbrev pub unless : {A : Type 0} → Option Refusal → Result A Refusal → Result A Refusal
unless None a = a
unless (Some r) a = Err r

-- what other languages are told of an answer: 0, or the refusal's number
abbrev pub status_of : {A : Type 0} → Result A Refusal → ℕ
status_of (Ok a) = 0
status_of (Err r) = number_of r

-- and what it leaves in a place that was lent for the value: the value, or what was there
abbrev pub left_by : {A : Type 0} → A → Result A Refusal → A
left_by old (Ok a) = a
left_by old (Err r) = old

-- what a call writes: this, or, refused, what was there
abbrev pub written : {A : Type 0} → Option Refusal → A → A → A
written None new old = new
written (Some r) new old = old
