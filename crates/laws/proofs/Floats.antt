-- What a float's test against itself says of its bits. Assumes nothing.
use mathlib.Core.Path.{◌≡◌, sym, ap, subst}
use mathlib.Core.Bool.{true, false, not, true≢false}
use lib.Dec.{T}
use lib.Ieee.{Float, nan, inf, fin, binary64, to_bits, is_nan, ne}
use lib.Ieee.Compare.{differs_from_itself}

pub nan_bits_lem : (v : Float) → ne v v ≡ true → 0x7ff8_0000_0000_0000 ≡ to_bits binary64 v
unfolding to_bits
nan_bits_lem v h = sym (ap (to_bits binary64) (differs_from_itself v (subst T (sym h) tt)))

pub not_nan : (v : Float) → ne v v ≡ false → T (not (is_nan v))
unfolding is_nan ne
not_nan nan h = absurd (true≢false h)
not_nan (inf s) h = tt
not_nan (fin s m e) h = tt
