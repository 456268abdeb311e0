-- `round` and the sign, and a bound on what it gives. Assumes nothing.
use Rattle.std.proofs.Common.{◌≡◌, ℕ, zero, suc, ◌+◌, ◌*◌, ◌%◌, ◌^◌, ◌<◌, ◌≤◌, Bool, true, false, cond, not, ◌&&◌, ◌||◌, T, eqb, ltb, ℤ, sym, refl, ap, ◌∙◌, subst, true≢false, le_trans, le_of_eq, le_of_lt, mul-le-mul_right, mod-lt, mul_assoc, mul-pos, arith, eqb→eq, ltb→lt, ne_eqb}
use lib.Ieee.{Float, nan, inf, fin, Format, binary64, up, down, low, emax, prec, neg, le, rem, round, units, odd}
use lib.Ieee.Exact.{HasValue}
use lib.Ieee.Fits.{round_is, up_pos, down_pos}
use lib.Ieee.Order.{round_mono, kept, drop}
use lib.Ieee.Positive.{through}
use Rattle.float.specs.Ops.{◌⊛◌}

-- ---- the sign goes through
neg_odd : (d : ℕ) (s : Bool) (q k l : ℕ) → neg (odd d s q k l) ≡ odd d (not s) q k l
unfolding odd neg
neg_odd d s zero k l = refl
neg_odd d s (suc q) k l = refl

neg_units : (f : Format) (s : Bool) (q k : ℕ) → neg (units f s q k) ≡ units f (not s) q k
unfolding units
neg_units f s q k = go (ltb (q * 2 ^ k) (2 ^ (low f + suc (emax f))))
  where
    go : (b : Bool) → neg (cond b (odd (suc (prec f)) s q k (low f)) (inf s)) ≡ cond b (odd (suc (prec f)) (not s) q k (low f)) (inf (not s))
    go true = neg_odd (suc (prec f)) s q k (low f)
    go false = unfold neg in refl

pub neg_round : (f : Format) (s : Bool) (a c : ℕ) → neg (round f s a c) ≡ round f (not s) a c
neg_round f s a c =
    ap neg (round_is f s a c)
    ∙ neg_units f s (kept (prec f) (a * 2 ^ low f) c) (drop (prec f) (a * 2 ^ low f) c)
    ∙ sym (round_is f (not s) a c)

-- ---- x is finite, has the sign s, and is at most b / d in size
abbrev pub Within : Bool → ℕ → ℕ → Float → Type 0
Within s b d nan = ⊥
Within s b d (inf t) = ⊥
Within s b d (fin t m e) = (t ≡ s) × (m * up e * d ≤ b * down e)

-- with either sign
abbrev pub Size : ℕ → ℕ → Float → Type 0
Size b d x = (s : Bool) × Within s b d x

-- a larger bound
pub wider : (s : Bool) (b d c e : ℕ) (x : Float) → 0 < d → b * e ≤ c * d → Within s b d x → Within s c e x
wider s b d c e nan D h w = w
wider s b d c e (inf t) D h w = w
wider s b d c e (fin t m k) D h w = (w.0, through (m * up k) b c (down k) d e D w.1 h)

-- an infinity or a number, of the sign s
abbrev Has : Bool → Float → Type 0
Has s nan = ⊥
Has s (inf t) = t ≡ s
Has s (fin t m e) = t ≡ s

has_odd : (d : ℕ) (s : Bool) (q k l : ℕ) → Has s (odd d s q k l)
unfolding odd
has_odd d s zero k l = refl
has_odd d s (suc q) k l = refl

has_units : (f : Format) (s : Bool) (q k : ℕ) → Has s (units f s q k)
unfolding units
has_units f s q k = go (ltb (q * 2 ^ k) (2 ^ (low f + suc (emax f))))
  where
    go : (b : Bool) → Has s (cond b (odd (suc (prec f)) s q k (low f)) (inf s))
    go true = has_odd (suc (prec f)) s q k (low f)
    go false = refl

has_round : (f : Format) (s : Bool) (a c : ℕ) → Has s (round f s a c)
has_round f s a c =
    subst (Has s) (sym (round_is f s a c))
    (has_units f s (kept (prec f) (a * 2 ^ low f) c) (drop (prec f) (a * 2 ^ low f) c))

le_split : (a b : ℕ) (x y : Bool) → (T x → a < b) → (T y → a ≡ b) → T (x || (y && true)) → a ≤ b
le_split a b true y p q t = le_of_lt (p tt)
le_split a b false true p q t = le_of_eq (q tt)
le_split a b false false p q t = absurd t

under : (x : Float) (n : ℕ) (d : ℤ) → Has false x → T (le x (fin false n d)) → Within false (n * up d) (down d) x
unfolding le
under nan n d h t = absurd h
under (inf true) n d h t = absurd (true≢false h)
under (inf false) n d h t = absurd t
under (fin true m e) n d h t = absurd (true≢false h)
under (fin false m e) n d h t =
    let a = m * up e * down d in
    let b = n * up d * down e in
    (refl, le_split a b (ltb a b) (eqb a b) (ltb→lt a b) (eqb→eq a b) t)

flip : (b d : ℕ) (x : Float) → Within false b d x → Within true b d (neg x)
unfolding neg
flip b d nan h = h
flip b d (inf s) h = h
flip b d (fin s m e) h = (ap not h.0, h.1)

-- a / c at most b / d, where b / d rounds to n × 2 ^ k: the rounded a / c is at most that
plain_within : (f : Format) (a c b d n : ℕ) (k : ℤ) → 0 < c → 0 < d → a * d ≤ b * c
    → round f false b d ≡ fin false n k → Within false (n * up k) (down k) (round f false a c)
plain_within f a c b d n k C D h e =
    under (round f false a c) n k (has_round f false a c) (subst (λ (x : Float). T (le (round f false a c) x)) e (round_mono f a c b d C D h))

pub round_within : (f : Format) (s : Bool) (a c b d n : ℕ) (k : ℤ) → 0 < c → 0 < d → a * d ≤ b * c
    → round f false b d ≡ fin false n k → Within s (n * up k) (down k) (round f s a c)
round_within f false a c b d n k C D h e = plain_within f a c b d n k C D h e
round_within f true a c b d n k C D h e =
    subst (Within true (n * up k) (down k)) (neg_round f false a c)
    (flip (n * up k) (down k) (round f false a c) (plain_within f a c b d n k C D h e))

-- ---- b / d is a float: rounding leaves it as it is, and so what is at most b / d stays at most that
abbrev pub Stays : ℕ → ℕ → Type 0
Stays b d = HasValue (round binary64 false b d) false b d

pub round_stays : (s : Bool) (a c b d : ℕ) → 0 < c → 0 < d → a * d ≤ b * c → Stays b d → Within s b d (round binary64 s a c)
round_stays s a c b d C D h = go (round binary64 false b d) refl
  where
    go : (y : Float) → round binary64 false b d ≡ y → HasValue y false b d → Within s b d (round binary64 s a c)
    go nan e v = absurd v
    go (inf t) e v = absurd v
    go (fin true n k) e v = absurd (true≢false v.0)
    go (fin false n k) e v = wider s (n * up k) (down k) b d (round binary64 s a c) (down_pos k) (le_of_eq v.1) (round_within binary64 s a c b d n k C D h e)

-- a remainder by a float above zero is at most that
pub rem_within : (s : Bool) (m : ℕ) (e : ℤ) (n : ℕ) (k : ℤ) → 0 < n → Stays (n * up k) (down k) → Within s (n * up k) (down k) (fin s m e ⊛ fin false n k)
unfolding rem
rem_within s m e n k N st =
    let P : 0 < n * up k * down e = mul-pos (mul-pos N (up_pos k)) (down_pos e) in
    simp (ne_eqb n 0 (λ z. omega arith))
    (round_stays s (m * up e * down k % (n * up k * down e)) (down e * down k) (n * up k) (down k) (mul-pos (down_pos e) (down_pos k)) (down_pos k)
    (le_trans (mul-le-mul_right (down k) (le_of_lt (mod-lt (m * up e * down k) P))) (le_of_eq (mul_assoc (n * up k) (down e) (down k)))) st)
