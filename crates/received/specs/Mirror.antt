-- A receiver hears the frequency fall as a satellite goes by, and the fit's prediction rises (docs/DIFFERENCES.md). Mirrored at the
-- centre, what was heard is what the fit expects.
use Rattle.std.specs.Prelude.{List, [], ◌∷◌, ◌++◌, map, ℕ, Float, take, drop}
use Rattle.float.specs.Ops.{◌⊕◌, ◌⊖◌}

-- as far above the centre as it was below: one rounding for the sum, one for the difference
unfoldable pub mirrored : Float → Float → Float
mirrored center f = (center ⊕ center) ⊖ f

-- the passes' frequencies one pass after the other, each pass at its own centre
unfoldable pub mirrored_all : List ℕ → List Float → List Float → List Float
mirrored_all [] centers freqs = freqs
mirrored_all (n ∷ counts) [] freqs = freqs
mirrored_all (n ∷ counts) (c ∷ centers) freqs = map (mirrored c) (take n freqs) ++ mirrored_all counts centers (drop n freqs)
