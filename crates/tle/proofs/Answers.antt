-- The answer of each way through `format_tle_catalog`. Assumes nothing.
use mathlib.Core.Path.{◌≡◌, refl, sym, ap, ◌∙◌}
use mathlib.Core.Bool.{true, false}
use mathlib.Core.List.{List, [], ◌∷◌, ◌++◌}
use Prim.Native.Nat.{ℕ, ◌+◌, ◌≤◌, ◌<◌}
use native.Mathlib.Omega.{arith}
use lib.ListN.{length, drop, length-append}
use lib.Seq.{sets}
use borrow.Author.Tests.{le-ltb, lt-ltb}
use Rattle.std.specs.Prelude.{Some, None, Result, Ok, Err}
use Rattle.decimal.specs.Fixed.{fixed_text}
use Rattle.refusal.specs.declared.Refusal.{Refusal}
use Rattle.refusal.specs.declared.Refusal.TheVariants.{MomentRange, Unprintable, ShortMemory}
use Rattle.moment.specs.Range.{taken}
use Rattle.moment.specs.declared.Instant.{Instant}
use Rattle.moment.proofs.Ranges.{Is}
use Rattle.tle.specs.Elements.{epoch_at, line_epoch}
use Rattle.tle.specs.Lines.{body1, body2, closed, line1, line2, catalog_of}
use Rattle.tle.specs.Answer.{orbit_fits, name_fits, lines_refusal, Formats}
use Rattle.solution.specs.declared.SolvedOrbit.{SolvedOrbit}
use Rattle.tle.specs.declared.elements.Epoch.{Epoch}
use Rattle.tle.proofs.Texts.{in_front}

pub line1_length : (e : Epoch) → length (line1 e) ≡ 69
unfolding line1 closed body1 fixed_text
line1_length e = refl

pub line2_length : (o : SolvedOrbit) → length (line2 o) ≡ 69
unfolding line2 closed body2 fixed_text
line2_length o = refl

pub catalog_length : (name : List ℕ) (o : SolvedOrbit) → length (catalog_of name o) ≡ length name + 141
unfolding catalog_of
catalog_length name o = simp (length-append) (let a = line1_length (line_epoch o.epoch) in let b = line2_length o in omega (arith, a, b))

-- ---- what a call answers and leaves
refused : {name : List ℕ} {o : SolvedOrbit} {out : List ℕ} {r : Refusal} {a : Result ℕ Refusal} → a ≡ Err r → lines_refusal name o (length out) ≡ Some r → Formats name o out out a
refused q e = record { answer = q ∙ sym (simp e); text = simp e }

module _ {name : List ℕ} {o : SolvedOrbit} {out : List ℕ} {a : Result ℕ Refusal} where
  pub bad_moment : {r : Refusal} → a ≡ Err r → r ≡ MomentRange → taken o.epoch ≡ false → Formats name o out out a
  bad_moment q m p = refused (q ∙ ap Err m) (unfold lines_refusal in simp p)

  pub bad_orbit : a ≡ Err Unprintable → taken o.epoch ≡ true → orbit_fits o ≡ false → Formats name o out out a
  bad_orbit q p f = refused q (unfold lines_refusal in simp (p, f))

  pub bad_name : a ≡ Err Unprintable → taken o.epoch ≡ true → orbit_fits o ≡ true → name_fits name ≡ false → Formats name o out out a
  bad_name q p f g = refused q (unfold lines_refusal in simp (p, f, g))

  pub too_short : a ≡ Err ShortMemory → taken o.epoch ≡ true → orbit_fits o ≡ true → name_fits name ≡ true → length out < length name + 141 → Formats name o out out a
  too_short q p f g h = refused q (unfold lines_refusal in simp (p, f, g, lt-ltb _ _ h))

accepts : (name : List ℕ) (o : SolvedOrbit) (out : List ℕ) → taken o.epoch ≡ true → orbit_fits o ≡ true → name_fits name ≡ true → length name + 141 ≤ length out
    → lines_refusal name o (length out) ≡ None
unfolding lines_refusal
accepts name o out p q r h = simp (p, q, r, le-ltb _ _ h)

pub formatted : (name : List ℕ) (o : SolvedOrbit) (out out' l1 l2 : List ℕ) (t : Instant) → Is o.epoch.seconds o.epoch.nanos t.secs t.nanos → orbit_fits o ≡ true → name_fits name ≡ true → length name + 141 ≤ length out
    → l1 ≡ line1 (epoch_at t.secs t.nanos) → l2 ≡ line2 o → out' ≡ sets out 0 (name ++ 10 ∷ l1 ++ 10 ∷ l2 ++ 10 ∷ []) → Formats name o out out' (Ok (length name + 141))
formatted name o out out' l1 l2 t p q r h a b e =
    let z = accepts name o out p.yes q r h in
    let n = catalog_length name o in
    let s : name ++ 10 ∷ l1 ++ 10 ∷ l2 ++ 10 ∷ [] ≡ catalog_of name o = unfold catalog_of in rw (a, b, p.secs_is, p.nanos_is) in
    record {
      answer = simp z;
      text = e ∙ ap (sets out 0) s ∙ in_front (catalog_of name o) out (omega arith) ∙ ap (λ (k : ℕ). catalog_of name o ++ drop k out) n ∙ simp z;
    }
