-- What an accepted fit's report says.
use Rattle.std.specs.Prelude.{ℕ, cond, List, ◌++◌, Float}
use Rattle.std.specs.Float.Ieee.{lt}
use Rattle.text.specs.Text.{bytes}
use Rattle.float.specs.Ops.{◌⊗◌, bits, abs_of}
use Rattle.append.specs.Append.{numeral}
use Rattle.noise.specs.declared.Finding.{Finding}
use Rattle.noise.specs.declared.Finding.TheVariants.{AtNoise, Doubtful, TwoPasses, Untold}
use Rattle.moment.specs.Time.{million, thousand}
use Rattle.report_text.specs.Number.{real_of}

unfoldable pub counts_of : ℕ → ℕ → ℕ → List ℕ
counts_of trials samples passes =
    bytes "trials: " ++ (numeral trials ++ (bytes "\nsamples: " ++ (numeral samples ++ (bytes " in " ++ (numeral passes ++ bytes " files\n")))))

unfoldable pub sums_of : Float → Float → List ℕ
sums_of best rms =
    bytes "best sum, with penalties: " ++ (real_of best ++ (bytes " Hz^2\nroot-mean-square residual of the samples: " ++ (real_of rms ++ bytes " Hz\n")))

unfoldable pub fit_text : ℕ → Float → Float → ℕ → ℕ → List ℕ
fit_text trials best rms samples passes = counts_of trials samples passes ++ sums_of best rms

-- A sample's frequency is predicted for the moment dt after its recorded one: where dt is positive, the recording's clock is behind.
unfoldable pub clock_of : Float → List ℕ
clock_of dt = bytes "its clock is " ++ (real_of (abs_of dt) ++ cond (lt dt (bits 0)) (bytes " s fast (take it from the times)") (bytes " s slow (add it to the times)"))

-- A predicted frequency has df added: where df is positive, the recorded frequencies are too high.
unfoldable pub offset_of : Float → List ℕ
offset_of df = bytes ", its frequencies are " ++ (real_of (abs_of df) ++ cond (lt df (bits 0)) (bytes " Hz low (add it to them)") (bytes " Hz high (take it from them)"))

-- by how much that grows, in mHz a second and in µHz a second squared
unfoldable pub drift_text : Float → Float → List ℕ
drift_text df1 df2 = bytes ", rising by " ++ (real_of (df1 ⊗ thousand) ++ (bytes " mHz/s and " ++ (real_of (df2 ⊗ million) ++ bytes " uHz/s^2\n")))

-- a file's line, which begins with its name
unfoldable pub pass_line : List ℕ → Float → Float → Float → Float → List ℕ
pass_line name dt df df1 df2 = name ++ (bytes ": " ++ (clock_of dt ++ (offset_of df ++ drift_text df1 df2)))

unfoldable pub ratio_line : Float → List ℕ
ratio_line ratio = bytes "doubtful: the residual is " ++ (real_of ratio ++ bytes " times the noise of the samples\n")

abbrev pub finding_of : Finding → Float → List ℕ
finding_of AtNoise ratio = bytes "the residual is at the noise of the samples\n"
finding_of Doubtful ratio = ratio_line ratio
finding_of TwoPasses ratio = bytes "two passes: the residual cannot tell a wrong orbit\n"
finding_of Untold ratio = bytes "the samples do not tell their noise\n"

unfoldable pub noise_of : Float → Float → Finding → List ℕ
noise_of estimate ratio f =
    bytes "noise of the samples by themselves: " ++ (real_of estimate ++ (bytes " Hz\nresidual over noise: " ++ (real_of ratio ++ (bytes "\n" ++ finding_of f ratio))))
