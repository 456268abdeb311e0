-- Worked examples. Assumes nothing.
use mathlib.Core.Path.{◌≡◌, refl}
use mathlib.Core.List.{[], ◌∷◌}
use Rattle.text.specs.Text.{bytes}
use Rattle.passes.specs.Text.{push, starts_lf, lines, blank, blanks, keep_trimmed, trim_end, trim}

-- "a\r\n\n b\r" has the lines "a", "" and " b\r", at 0, 3 and 4; trimmed, the last is "b"
three : lines 0 (bytes "a\r\n\n b\r") ≡ record { at = 0; bytes = bytes "a" } ∷ record { at = 3; bytes = [] } ∷ record { at = 4; bytes = bytes " b\r" } ∷ []
unfolding push starts_lf lines
three = refl

bare : trim (bytes " b\tc\r ") ≡ bytes "b\tc"
unfolding blank blanks keep_trimmed trim_end trim
bare = refl
