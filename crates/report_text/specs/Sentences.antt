-- The sentence of each refusal, and the lines that carry it.
use Rattle.std.specs.Prelude.{ℕ, List, [], ◌++◌, Option, Some, None}
use Rattle.text.specs.Text.{bytes}
use Rattle.append.specs.Append.{numeral}
use Rattle.refusal.specs.declared.Refusal.{Refusal}
use Rattle.refusal.specs.declared.Refusal.TheVariants.{NonAscii, LongLine, NumberSize, MomentRange, Sizes, NanArgument, InitialRange, NanFrequency, FewPasses, FewSamples, Unprintable, Limits, PositionRange, LineColumns, LineChecksum, Eccentric, ShortMemory, SmallPivot, FarMoment, LargeSum, LargeOffset}
use Rattle.refusal.specs.Refusals.{number_of}

-- those that no command meets have no sentence of their own
unfoldable pub sentence_of : Refusal → List ℕ
sentence_of NonAscii = bytes "a byte above 127"
sentence_of LongLine = bytes "a line of more than 256 bytes"
sentence_of NumberSize = bytes "a number of more than 19 digits, or with an exponent outside -30 to 30"
sentence_of MomentRange = bytes "a moment outside 1957 to 2056"
sentence_of Sizes = bytes "more than 16 passes or 4096 samples"
sentence_of NanArgument = bytes "the mast's position or the inclination is not a number"
sentence_of InitialRange = bytes "the inclination is outside 0 to 180 degrees"
sentence_of NanFrequency = bytes "a sample's frequency is not a number"
sentence_of FewPasses = bytes "fewer than two passes have samples"
sentence_of FewSamples = bytes "fewer samples than four and one for each pass that has any"
sentence_of Unprintable = bytes "the orbit cannot be printed, or the name is over 24 bytes or has a byte outside 32 to 126"
sentence_of Limits = bytes "refused"
sentence_of PositionRange = bytes "latitude, longitude and height are not three numbers with commas and no blanks between them, within 90 and 360 degrees and -500 to 10000 m"
sentence_of LineColumns = bytes "refused"
sentence_of LineChecksum = bytes "refused"
sentence_of Eccentric = bytes "refused"
sentence_of ShortMemory = bytes "too little memory was lent"
sentence_of SmallPivot = bytes "refused"
sentence_of FarMoment = bytes "a moment of a prediction lies over 8000000000000 s from 1970"
sentence_of LargeSum = bytes "no orbit fits: the best sum is above 1e11, or no trial gave one"
sentence_of LargeOffset = bytes "a pass's frequency offset exceeds 500 kHz"

unfoldable pub numbered_of : Refusal → List ℕ
numbered_of r = bytes "refusal " ++ (numeral (number_of r) ++ (bytes ": " ++ (sentence_of r ++ bytes "\n")))

unfoldable pub refusal_line : Refusal → List ℕ
refusal_line r = bytes "fit_passes: " ++ numbered_of r

-- a line's number, counted from 1, where there is a line
unfoldable pub line_text : Option ℕ → List ℕ
line_text None = []
line_text (Some n) = bytes "line " ++ (numeral n ++ bytes ": ")

unfoldable pub file_refusal_of : List ℕ → Option ℕ → Refusal → List ℕ
file_refusal_of name n r = name ++ (bytes ": " ++ (line_text n ++ numbered_of r))
