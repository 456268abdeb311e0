-- What the loops over passes and samples ask. Assumes nothing.
use mathlib.Core.Path.{◌≡◌, refl, sym, ap, ◌∙◌}
use mathlib.Core.Bool.{Bool, cond, ◌||◌}
use Rattle.std.specs.List.{list_any}
use mathlib.Core.List.{List, [], ◌∷◌, ◌++◌, append_assoc, append-nil}
use Prim.Native.Nat.{ℕ, suc, ◌+◌, ◌≤◌, ◌<◌}
use native.Mathlib.Numerals.{add-one}
use native.Mathlib.Omega.{arith}
use lib.Dec.{eqb}
use lib.ListN.{length, get_or, take, drop, set, length-set, drop_of_length-le}
use lib.Seq.{drop-cons, take-suc-set, length-take-le}
use lib.Ieee.{Float, nan, is_nan}
use borrow.Author.Tests.{eq-eqb, ne_eqb}
use Rattle.float.specs.Ops.{bits}
use Rattle.arguments.specs.Passes.{non_empty, center_of, Compacts}
use Rattle.arguments.specs.Refusals.{any_nan}

-- ---- whether any sample is NaN

pub nan_any : (fs : List Float) → any_nan fs ≡ list_any is_nan fs
unfolding any_nan
nan_any [] = refl
nan_any (f ∷ fs) = ap (λ (b : Bool). is_nan f || b) (nan_any fs)

-- ---- the passes from p on decide the first non-empty pass's centre

pub record CenterFrom (counts : List ℕ) (centers : List Float) (p : ℕ) : Type 0 where
  pub rest : center_of (drop p counts) (drop p centers) ≡ center_of counts centers

pub center_first : (counts : List ℕ) (centers : List Float) → CenterFrom counts centers 0
center_first counts centers = record { rest = refl }

center_step : (counts : List ℕ) (centers : List Float) (p : ℕ) → p < length counts → length centers ≡ length counts
    → center_of (drop p counts) (drop p centers) ≡ cond (eqb (get_or counts p 0) 0) (center_of (drop (p + 1) counts) (drop (p + 1) centers)) (get_or centers p nan)
unfolding center_of
center_step counts centers p h e =
    let g : p < length centers = omega arith in
    let next : p + 1 ≡ suc p = add-one p in
    rw (next, drop-cons counts p 0 h, drop-cons centers p nan g)

module _ {counts : List ℕ} {centers : List Float} {p : ℕ} (h : p < length counts) (same : length centers ≡ length counts) (f : CenterFrom counts centers p) where
  pub center_next : get_or counts p 0 ≡ 0 → CenterFrom counts centers (p + 1)
  center_next e = record { rest = rw (eq-eqb (get_or counts p 0) 0 e) at (sym (center_step counts centers p h same) ∙ f.rest) }

  pub center_found : (get_or counts p 0 ≡ 0 → ⊥) → get_or centers p nan ≡ center_of counts centers
  center_found e = rw (ne_eqb (get_or counts p 0) 0 e) at (sym (center_step counts centers p h same) ∙ f.rest)

pub center_last : {counts : List ℕ} {centers : List Float} {p : ℕ} → length counts ≤ p → CenterFrom counts centers p → bits 0 ≡ center_of counts centers
unfolding center_of
center_last {counts} {p = p} h f = rw (drop_of_length-le counts {i = p} h) at f.rest

-- ---- the first n places hold the non-empty of the first p counts

pub record Kept (counts out : List ℕ) (n p : ℕ) : Type 0 where
  pub within : p ≤ length counts
  pub few : n ≤ p
  pub room : length out ≡ 16
  pub joins : take n out ++ non_empty (drop p counts) ≡ non_empty counts

pub kept_first : (counts out : List ℕ) → length out ≡ 16 → Kept counts out 0 0
kept_first counts out e = record { within = omega arith; few = omega arith; room = e; joins = refl }

kept_step : (counts : List ℕ) (p : ℕ) → p < length counts
    → non_empty (drop p counts) ≡ cond (eqb (get_or counts p 0) 0) (non_empty (drop (p + 1) counts)) (get_or counts p 0 ∷ non_empty (drop (p + 1) counts))
unfolding non_empty
kept_step counts p h =
    let next : p + 1 ≡ suc p = add-one p in
    rw (next, drop-cons counts p 0 h)

module _ {counts out out' : List ℕ} {n n' p : ℕ} (h : p < length counts) (k : Kept counts out n p) where
  pub kept_more : length counts ≤ 16 → (get_or counts p 0 ≡ 0 → ⊥) → out' ≡ set out n (get_or counts p 0) → n' ≡ n + 1 → Kept counts out' n' (p + 1)
  kept_more few d e g =
      let room : n < length out = omega (arith, k.few, k.room) in
      let rest : non_empty (drop p counts) ≡ get_or counts p 0 ∷ non_empty (drop (p + 1) counts) = rw (ne_eqb (get_or counts p 0) 0 d) at (kept_step counts p h) in
      let front : take n' out' ≡ take n out ++ (get_or counts p 0 ∷ []) = rw (e, g, add-one n) (take-suc-set out n (get_or counts p 0) room) in
      record {
        within = omega arith;
        few = omega (arith, k.few);
        room = ap length e ∙ length-set out n (get_or counts p 0) ∙ k.room;
        joins =
            ap (λ (l : List ℕ). l ++ non_empty (drop (p + 1) counts)) front
            ∙ append_assoc (take n out) (get_or counts p 0 ∷ []) (non_empty (drop (p + 1) counts))
            ∙ ap (λ (l : List ℕ). take n out ++ l) (sym rest)
            ∙ k.joins;
      }

  pub kept_skip : get_or counts p 0 ≡ 0 → out' ≡ out → n' ≡ n → Kept counts out' n' (p + 1)
  kept_skip d e g =
      let rest : non_empty (drop p counts) ≡ non_empty (drop (p + 1) counts) = rw (eq-eqb (get_or counts p 0) 0 d) at (kept_step counts p h) in
      record {
        within = omega arith;
        few = omega (arith, k.few);
        room = ap length e ∙ k.room;
        joins = rw (e, g) (ap (λ (l : List ℕ). take n out ++ l) (sym rest) ∙ k.joins);
      }

pub kept_last : {counts out : List ℕ} {n p : ℕ} → length counts ≤ p → length counts ≤ 16 → Kept counts out n p → Compacts counts (record { counts = out; passes = n })
unfolding non_empty
kept_last {counts} {out} {n} {p} h few k =
    let all : take n out ≡ non_empty counts = sym (append-nil (take n out)) ∙ (rw (drop_of_length-le counts {i = p} h) at k.joins) in
    let fits : n ≤ length out = omega (arith, k.few, k.room, k.within) in
    record { number = sym (length-take-le n out fits) ∙ ap length all; kept = all }
