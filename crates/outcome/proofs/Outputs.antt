-- What a determination leaves in the text is what the definition writes. Assumes nothing.
use mathlib.Core.Path.{◌≡◌, refl, subst}
use mathlib.Core.Bool.{Bool, cond}
use mathlib.Core.List.{List, [], ◌++◌}
use Prim.Native.Nat.{ℕ, ◌+◌, zero-le}
use native.Mathlib.Omega.{arith}
use lib.Ieee.{Float}
use lib.IntN.{ℤ}
use lib.ListN.{length, drop, length-append}
use lib.Seq.{take_at}
use Rattle.std.specs.Prelude.{Option, Some, None, Result, Ok, Err}
use Rattle.refusal.specs.Refusals.{answer, written, left_by}
use Rattle.refusal.specs.declared.Refusal.{Refusal}
use Rattle.float.specs.Ops.{bits}
use Rattle.frame.specs.declared.Vec3.{Vec3}
use Rattle.solution.specs.declared.SolvedOrbit.{SolvedOrbit}
use Rattle.received.specs.Mirror.{mirrored_all}
use Rattle.ordering.specs.Order.{PassSet, pass_set, order_of, in_time}
use Rattle.fit.specs.Answer.{Arguments, arguments, Outputs, output_room}
use Rattle.tle.specs.Lines.{catalog_of}
use Rattle.tle.specs.Answer.{lines_refusal, Formats}
use Rattle.tle.proofs.Answers.{catalog_length}
use Rattle.determination.specs.Calls.{bytes_written, Determines}
use Rattle.determination.specs.declared.Determination.{Determination}
use Rattle.outcome.specs.Output.{initial_a_bits, heard, fitted_set, given, fit_of, text_of, output_of, Writes, Comes}

module _ (name : List ℕ) (o : SolvedOrbit) (out : List ℕ) {out' : List ℕ} {c : Result ℕ Refusal} where
  by_answer : (k : Option Refusal) → c ≡ answer k (length name + 141) → out' ≡ written k (catalog_of name o ++ drop (length name + 141) out) out
      → Writes (left_by 0 c) out' (written k (catalog_of name o) [])
  by_answer None e t =
      rw (e, t)
      (record {
        room = rw length-append (omega (arith, catalog_length name o));
        is = take_at (catalog_of name o) (drop (length name + 141) out) (length name + 141) (catalog_length name o);
      })
  by_answer (Some k) e t = rw e (record { room = zero-le; is = refl })

  lines_text : Formats name o out out' c → Writes (left_by 0 c) out' (text_of name o (length out))
  unfolding text_of
  lines_text f = by_answer (lines_refusal name o (length out)) f.answer f.text

text_writes : {x : Arguments} {w w' : Outputs} {scratch scratch' : List Float} (name text : List ℕ) {text' : List ℕ} (r : Result Determination Refusal)
    → Determines x w w' scratch scratch' name text text' r → Writes (bytes_written r) text' (output_of name x (output_room w scratch) (length text))
unfolding output_of fit_of
text_writes name text (Ok d) h = rw (← h.fits.answered) (lines_text name d.fit.orbit text (h.formats d refl))
text_writes name text (Err k) h = rw (← h.fits.answered) (record { room = zero-le; is = refl })

-- the set in the arrays, and what follows
module _ (received : Bool) (counts : List ℕ) (times : List ℤ) (freqs centers : List Float) {order counts' : List ℕ} {times' : List ℤ} {freqs'' freqs' centers' : List Float}
    (f : freqs'' ≡ cond received (mirrored_all counts centers freqs) freqs) (o : order ≡ order_of counts times)
    (s : pass_set counts' times' freqs' centers' ≡ in_time (pass_set counts times freqs'' centers)) where
  set_is : pass_set counts' times' freqs' centers' ≡ fitted_set received (pass_set counts times freqs centers)
  unfolding fitted_set heard
  set_is = rw f at s

  mirrored_is : freqs'' ≡ (heard received (pass_set counts times freqs centers)).freqs
  unfolding heard
  mirrored_is = f

  pub comes : (rec : Vec3) (i : Float) {w w' : Outputs} {scratch scratch' : List Float} (name text : List ℕ) {text' : List ℕ} {d : Result Determination Refusal}
      → Determines (arguments counts' times' freqs' centers' rec (bits 0x415ab3f000000000) i) w w' scratch scratch' name text text' d
      → Comes received (pass_set counts times freqs centers) (pass_set counts' times' freqs' centers') freqs'' order rec i w w' scratch scratch' name text text' d
  comes rec i {w} {w'} {scratch} {scratch'} name text {text'} {d} h =
      let g : Determines (given (fitted_set received (pass_set counts times freqs centers)) rec i) w w' scratch scratch' name text text' d =
      subst (λ (t : PassSet). Determines (given t rec i) w w' scratch scratch' name text text' d) set_is (rw initial_a_bits at h) in
      record { mirrored = mirrored_is; ordered = o; set = set_is; determined = g; writes = text_writes name text d g }
