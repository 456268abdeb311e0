-- `decimal::ratio::long` meets its contract. Assumes nothing.
use mathlib.Core.Path.{◌≡◌, sym, ap, ◌∙◌}
use Prim.Native.Nat.{ℕ, ◌+◌, ◌-◌, ◌*◌, ◌^◌, ◌≤◌, ◌<◌, compare}
use native.Mathlib.Nat.{le_trans, le_of_eq, lt_of_lt_of_le, lt_of_le_of_lt, one-mul, mul-pos}
use native.Mathlib.Omega.{arith}
use mathlib.Core.Bool.{Bool, true, cond}
use lib.Dec.{lit<}
use lib.Ieee.{binary64, round, of_bits, nearest}
use lib.Ieee.Nearest.{closest}
use Rattle.decimal.specs.Rounding.{order}
use Rattle.decimal.specs.Wide.{val}
use Rattle.decimal.proofs.Ordered.{cmp_val}
use Rattle.decimal.proofs.Round.{closest_at, ten_pos}
use Rattle.decimal.proofs.Near.{round_bits, closest_le}
use Rattle.decimal.proofs.Doubling.{tens_small, one_small, scaled_same, scaled_lo, scaled_hi, doubled_pos}
use Rattle.decimal.proofs.ratio.long.Goals.{After-rounded-q}
use Rattle.decimal.proofs.ratio.long.Goals as goal

-- the value of N / M by the parts that were found, on plain numbers
module _ (N M n b i k q₀ r q : ℕ) (I : 1022 ≤ i) (J : i < 1186) (D : 0 < M) (P : 0 < b) (eb : b ≡ M * 2 ^ (i - 1022)) (en : n * 2 ^ k ≡ N * 2 ^ i) (K : k ≤ i) (lo : b ≤ n) (hi : n < b * 2)
    (eq : q₀ * b + r ≡ n * 2 ^ 52) (R : r < b) (er : q ≡ nearest q₀ (compare (r * 2) b)) where
  is-closest : closest (n * 2 ^ 52) b ≡ q
  is-closest = ap (λ (x : ℕ). closest x b) (sym eq) ∙ closest_at q₀ b r R ∙ sym er

  few : k ≤ 1400
  few = omega arith

  found : (k * 2 ^ 52 + q ≤ 1500 * 2 ^ 52) × ((s : Bool) → round binary64 s N M ≡ of_bits binary64 (cond s (2 ^ 63) 0 + (k * 2 ^ 52 + q)))
  found =
      let same = scaled_same N M n b i k I eb en in
      let l : q ≤ 2 ^ 53 = le_trans (le_of_eq (sym is-closest)) (closest_le true N M (n * 2 ^ 52) b k D P (scaled_lo n b lo) (scaled_hi n b hi) same few) in
      (omega (arith, few, l), λ s. round_bits s N M (n * 2 ^ 52) b k D P (scaled_lo n b lo) (scaled_hi n b hi) same few ∙ ap (λ (x : ℕ). of_bits binary64 (cond s (2 ^ 63) 0 + (k * 2 ^ 52 + x))) is-closest)

all : (c : After-rounded-q) → (c.raised-high.result.k * 2 ^ 52 + c.rounded-q.result ≤ 1500 * 2 ^ 52)
    × ((s : Bool) → round binary64 s (val c.tens-n.result) (val c.tens-m.result)
    ≡ of_bits binary64 (cond s (2 ^ 63) 0 + (c.raised-high.result.k * 2 ^ 52 + c.rounded-q.result)))
all c =
    let g = c.divided-parts in
    let h = c.raised-high in
    let l = c.lowered-low in
    let m = c.tens-m in
    let n = c.tens-n in
    let M = lt_of_lt_of_le (mul-pos {m = 1} {n = 10 ^ c.args.down} (lit< tt) (ten_pos c.args.down)) (le_of_eq (sym m.ensures)) in
    found (val n.result) (val m.result) (val h.result.x) (val l.result.x) l.result.k h.result.k g.result.q (val g.result.r) c.rounded-q.result
    l.ensures.3 l.ensures.4 M (doubled_pos (val m.result) (l.result.k - 1022) (val l.result.x) M l.ensures.2) l.ensures.2 h.ensures.2 h.ensures.3 h.ensures.0 h.ensures.1
    g.ensures.0 g.ensures.1
    (c.rounded-q.ensures ∙ ap (nearest g.result.q) (ap order c.cmp.ensures ∙ cmp_val c.times.result l.result.x ∙ ap (λ (x : ℕ). compare x (val l.result.x)) c.times.ensures))

pub tens-n-requires : goal.tens-n-requires
tens-n-requires c = tens_small c.args.d c.args.up c.ranges.d.fits c.requires.1

pub tens-m-requires : goal.tens-m-requires
tens-m-requires c = one_small c.args.down c.requires.2

pub lowered-low-requires : goal.lowered-low-requires
lowered-low-requires c =
    let n = c.tens-n in
    let m = c.tens-m in (
      lt_of_le_of_lt (le_of_eq n.ensures) (tens_small c.args.d c.args.up c.ranges.d.fits c.requires.1),
      lt_of_lt_of_le (mul-pos {m = 1} {n = 10 ^ c.args.down} (lit< tt) (ten_pos c.args.down)) (le_of_eq (sym m.ensures)),
      lt_of_le_of_lt (le_of_eq m.ensures) (one_small c.args.down c.requires.2),
    )

pub raised-high-requires : goal.raised-high-requires
raised-high-requires c =
    let n = c.tens-n in
    let l = c.lowered-low in
    (lt_of_lt_of_le (mul-pos c.requires.0 (ten_pos c.args.up)) (le_of_eq (sym n.ensures)), l.ensures.1, l.ensures.0, l.ensures.3, l.ensures.4)

pub overflow_add-result : goal.overflow_add-result
overflow_add-result c = omega (arith, (all (goal.at.overflow_add-result c).After-rounded-q).0)

pub returns : goal.returns
returns c =
    let m = c.tens-m in
    let n = c.tens-n in
    record {
      small = (all (goal.at.returns c).After-rounded-q).0;
      is = λ s. (λ i. round binary64 s (sym n.ensures i) (sym (m.ensures ∙ one-mul (10 ^ c.args.down)) i)) ∙ (all (goal.at.returns c).After-rounded-q).1 s;
    }
