-- The arithmetic of `cube_at_most`: c ^ 3 in two parts to the base 2 ^ 54, of which the lower one is rounded up. Assumes nothing.
use mathlib.Core.Path.{◌≡◌, sym, ap, ◌∙◌}
use mathlib.Core.Logic.{◌⊎◌, inl, inr}
use Prim.Native.Nat.{ℕ, ◌+◌, ◌*◌, ◌/◌, ◌%◌, ◌^◌, ◌≤◌, ◌<◌}
use native.Mathlib.Omega.{arith}
use lib.Dec.{leb}
use Rattle.std.specs.Int.{div_ceil}
use Rattle.std.proofs.lemmas.Bool.{le-leb, lt-leb}
use Rattle.laws.proofs.Numbers.{lt_or_ge}
use Rattle.roots.specs.Power.{cube}

same_order : (u l m : ℕ) → leb (u + div_ceil l 18014398509481984) m ≡ leb (u * 18014398509481984 + l) (m * 18014398509481984)
same_order u l m = go (lt_or_ge m (u + div_ceil l 18014398509481984))
  where
    go : (m < u + div_ceil l 18014398509481984) ⊎ (u + div_ceil l 18014398509481984 ≤ m) → leb (u + div_ceil l 18014398509481984) m ≡ leb (u * 18014398509481984 + l) (m * 18014398509481984)
    go (inl h) = lt-leb (u + div_ceil l 18014398509481984) m h ∙ sym (lt-leb (u * 18014398509481984 + l) (m * 18014398509481984) (omega arith))
    go (inr h) = le-leb (u + div_ceil l 18014398509481984) m h ∙ sym (le-leb (u * 18014398509481984 + l) (m * 18014398509481984) (omega arith))

parts : (c s : ℕ) → s / 18014398509481984 * c * 18014398509481984 + s % 18014398509481984 * c ≡ s * c
parts c s = spread (s / 18014398509481984) (s % 18014398509481984) ∙ ap (λ (z : ℕ). z * c) (whole s)
  where
    spread : (a b : ℕ) → a * c * 18014398509481984 + b * c ≡ (a * 18014398509481984 + b) * c
    spread a b = omega arith

    whole : (s : ℕ) → s / 18014398509481984 * 18014398509481984 + s % 18014398509481984 ≡ s
    whole s = omega arith

pub cube_test : (c m : ℕ) → m < 2 ^ 64
    → leb (c * c / 18014398509481984 * c + div_ceil (c * c % 18014398509481984 * c) 18014398509481984) (m * 2 ^ 53 % 2 ^ 128) ≡ leb (cube c) (m * 2 ^ 107)
cube_test c m h =
    ap (λ (z : ℕ). leb (c * c / 18014398509481984 * c + div_ceil (c * c % 18014398509481984 * c) 18014398509481984) z) (held m h)
    ∙ same_order (c * c / 18014398509481984 * c) (c * c % 18014398509481984 * c) (m * 2 ^ 53)
    ∙ ap (λ (z : ℕ). leb z (m * 2 ^ 53 * 18014398509481984)) (parts c (c * c))
    ∙ ap (λ (z : ℕ). leb (cube c) z) (scale m)
  where
    held : (m : ℕ) → m < 2 ^ 64 → m * 2 ^ 53 % 2 ^ 128 ≡ m * 2 ^ 53
    held m h = omega arith

    scale : (m : ℕ) → m * 2 ^ 53 * 18014398509481984 ≡ m * 2 ^ 107
    scale m = omega arith
