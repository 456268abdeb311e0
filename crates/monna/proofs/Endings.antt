-- Each ending of the calls, from the tests that lead there. Assumes nothing.
use Rattle.std.proofs.Common.{◌≡◌, refl, ℕ, ◌<◌, ◌≤◌, Bool, true, false, cond, not, nat_lt, Some, None, List, ◌++◌, length, drop, Ok, Err, le-ltb, lt-ltb}
use lib.Ieee.{Float}
use Rattle.refusal.specs.declared.Refusal.{Refusal}
use Rattle.refusal.specs.declared.Refusal.TheVariants.{Limits, ShortMemory}
use Rattle.monna.specs.Digits.{is_base}
use Rattle.monna.specs.Answers.{base_refusal, digits_refusal, history_refusal, Differs}
use Rattle.monna.specs.History.{differences_of}

off_base : (b c : Bool) (e : Refusal) → cond (not b) (Some Limits) None ≡ Some e → cond (not b) (Some Limits) (cond c (Some Limits) None) ≡ Some e
off_base true c e h = cc
off_base false c e h = h

on_base : (b : Bool) → cond (not b) (Some Limits) None ≡ None → b ≡ true
on_base true h = refl
on_base false h = cc

-- a base that is refused alone is refused with its digits, and a base that is not leaves the digits' number to be tested
pub digits_off : (p n : ℕ) (e : Refusal) → base_refusal p ≡ Some e → digits_refusal p n ≡ Some e
unfolding base_refusal digits_refusal
digits_off p n e h = off_base (is_base p) (nat_lt 16 n) e h

pub digits_on : (p n : ℕ) → base_refusal p ≡ None → digits_refusal p n ≡ cond (nat_lt 16 n) (Some Limits) None
unfolding base_refusal digits_refusal
digits_on p n h = rw (on_base (is_base p) h)

module _ (x o : List Float) where
  pub too_long : 64 < length x → Differs x o o (Err Limits)
  unfolding history_refusal
  too_long h = record { answered = rw (lt-ltb 64 (length x) h); out = rw (lt-ltb 64 (length x) h) }

  pub too_short : length x ≤ 64 → length o < length x → Differs x o o (Err ShortMemory)
  unfolding history_refusal
  too_short h k = record { answered = rw (le-ltb 64 (length x) h, lt-ltb (length o) (length x) k); out = rw (le-ltb 64 (length x) h, lt-ltb (length o) (length x) k) }

  pub written : length x ≤ 64 → length x ≤ length o → (d : List Float) → d ≡ differences_of x → Differs x o (d ++ drop (length x) o) (Ok tt)
  unfolding history_refusal
  written h k d e = record { answered = rw (le-ltb 64 (length x) h, le-ltb (length o) (length x) k); out = rw (e, le-ltb 64 (length x) h, le-ltb (length o) (length x) k) }
