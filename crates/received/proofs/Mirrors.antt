-- Loops over the samples of a pass, and over passes. Assumes nothing.
use mathlib.Core.Path.{◌≡◌, refl, sym, ap, ap₂, subst, ◌∙◌}
use mathlib.Core.List.{List, [], ◌∷◌, ◌++◌, map, append_assoc, append-nil}
use Prim.Native.Nat.{ℕ, suc, ◌+◌, ◌-◌, ◌≤◌, ◌<◌}
use native.Mathlib.Numerals.{add-one}
use native.Mathlib.Omega.{arith}
use lib.Ieee.{Float, nan}
use lib.ListN.{length, get_or, take, drop, set, length-set, length-map, length-append, length-drop, take-append-drop, drop_of_length-le}
use lib.Seq.{drop-cons, take-suc-set, drop-set-lt, take_at, drop_at, take_all, length-take-le}
use borrow.Rule.Slice.PartMut.{put_mid}
use Rattle.pass_set.specs.PassSet.{Sizes, AtPass}
use Rattle.pass_set.proofs.Laws.{first_pass, next_pass, pass_fits}
use Rattle.received.specs.Mirror.{mirrored, mirrored_all}

-- ---- the samples of a pass

pub record Mirroring (c : Float) (k : ℕ) (now whole : List Float) : Type 0 where
  pub inside : k ≤ length now
  pub gives : take k now ++ map (mirrored c) (drop k now) ≡ whole

pub begin_pass : (c : Float) (l : List Float) → Mirroring c 0 l (map (mirrored c) l)
begin_pass c l = record { inside = omega arith; gives = refl }

pub next_sample : {c : Float} {k : ℕ} {now whole : List Float} {v : Float} → k < length now → Mirroring c k now whole → v ≡ mirrored c (get_or now k nan) → Mirroring c (k + 1) (set now k v) whole
next_sample {c} {k} {now} {whole} {v} h m e =
    record {
      inside = rw length-set (omega arith);
      gives =
          rw (add-one, take-suc-set now k v, drop-set-lt (suc k) now k v (omega arith))
          (append_assoc (take k now) (v ∷ []) (map (mirrored c) (drop (suc k) now))
          ∙ ap (λ (x : Float). take k now ++ x ∷ map (mirrored c) (drop (suc k) now)) e
          ∙ ap (λ (l : List Float). take k now ++ map (mirrored c) l) (sym (drop-cons now k nan h))
          ∙ m.gives);
    }

pub end_pass : {c : Float} {k : ℕ} {now whole : List Float} → length now ≤ k → Mirroring c k now whole → now ≡ whole
end_pass {c} {k} {now} h m = sym (take_all k now h) ∙ sym (append-nil (take k now)) ∙ ap (λ (l : List Float). take k now ++ map (mirrored c) l) (sym (drop_of_length-le now {i = k} h)) ∙ m.gives

-- ---- pass after pass

pub record Passing (counts : List ℕ) (centers : List Float) (p at : ℕ) (now whole : List Float) : Type 0 where
  pub place : AtPass counts p at
  pub gives : take at now ++ mirrored_all (drop p counts) (drop p centers) (drop at now) ≡ whole

module _ (counts : List ℕ) (centers : List Float) where
  pub begin_all : (l : List Float) → Passing counts centers 0 0 l (mirrored_all counts centers l)
  begin_all l = record { place = first_pass counts; gives = refl }

  module _ {p at : ℕ} {now whole : List Float} (s : Sizes counts (length now) (length now) (length centers)) (m : Passing counts centers p at now whole) where
    pub pass_room : p < length counts → at + get_or counts p 0 ≤ length now
    pass_room h = omega (arith, pass_fits h m.place, s.whole)

    module _ (h : p < length counts) where
      here : mirrored_all (drop p counts) (drop p centers) (drop at now)
          ≡ map (mirrored (get_or centers p nan)) (take (get_or counts p 0) (drop at now)) ++ mirrored_all (drop (suc p) counts) (drop (suc p) centers) (drop (get_or counts p 0) (drop at now))
      unfolding mirrored_all
      here = rw (drop-cons counts p 0, drop-cons centers p nan (omega (arith, s.centred)))

      pub next_all : {ys : List Float} {end : ℕ} → end ≡ at + get_or counts p 0 → ys ≡ map (mirrored (get_or centers p nan)) (take (at + get_or counts p 0 - at) (drop at now))
          → Passing counts centers (p + 1) end (put_mid at (at + get_or counts p 0 - at) now ys) whole
      next_all {ys} e f =
          let k : at + get_or counts p 0 - at ≡ get_or counts p 0 = omega arith in
          rw (e, k) (moved (rw k at f))
        where
          moved : {ys : List Float} → ys ≡ map (mirrored (get_or centers p nan)) (take (get_or counts p 0) (drop at now)) → Passing counts centers (p + 1) (at + get_or counts p 0) (put_mid at (get_or counts p 0) now ys) whole
          moved {ys} g =
              let long : length ys ≡ get_or counts p 0 =
              ap length g ∙ length-map (take (get_or counts p 0) (drop at now)) (mirrored (get_or centers p nan))
              ∙ length-take-le (get_or counts p 0) (drop at now) (rw length-drop (omega (arith, pass_room h))) in
              let post : List Float = drop (get_or counts p 0) (drop at now) in
              let front : length (take at now ++ ys) ≡ at + get_or counts p 0 =
              length-append (take at now) ys ∙ ap₂ ◌+◌ (length-take-le at now (omega (arith, pass_room h))) long in
              let shape : put_mid at (get_or counts p 0) now ys ≡ (take at now ++ ys) ++ post = sym (append_assoc (take at now) ys post) in
              record {
                place = next_pass h m.place;
                gives =
                    ap₂ (λ (a b : List Float). a ++ mirrored_all (drop (p + 1) counts) (drop (p + 1) centers) b)
                    (ap (take (at + get_or counts p 0)) shape ∙ take_at (take at now ++ ys) post (at + get_or counts p 0) front)
                    (ap (drop (at + get_or counts p 0)) shape ∙ drop_at (take at now ++ ys) post (at + get_or counts p 0) front)
                    ∙ append_assoc (take at now) ys (mirrored_all (drop (p + 1) counts) (drop (p + 1) centers) post)
                    ∙ ap₂ (λ (q : ℕ) (l : List Float). take at now ++ (l ++ mirrored_all (drop q counts) (drop q centers) post)) (add-one p) g
                    ∙ ap (take at now ++◌) (sym here)
                    ∙ m.gives;
              }

    pub end_all : length counts ≤ p → now ≡ whole
    unfolding mirrored_all
    end_all h = rest (drop p counts) (drop_of_length-le counts {i = p} h) m.gives
      where
        rest : (l : List ℕ) → l ≡ [] → take at now ++ mirrored_all l (drop p centers) (drop at now) ≡ whole → now ≡ whole
        rest [] e g = sym (take-append-drop at now) ∙ g
        rest (x ∷ l) e g = absurd (omega (arith, ap length e))

-- sizes agree whatever the frequencies are
pub sized : {counts : List ℕ} {n m c : ℕ} → m ≡ n → Sizes counts n n c → Sizes counts m m c
sized {counts} {c = c} e s = subst (λ (k : ℕ). Sizes counts k k c) (sym e) s
