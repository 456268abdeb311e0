-- How many files a request has, and where the first stands. Assumes nothing.
use mathlib.Core.Path.{◌≡◌, refl, subst}
use mathlib.Core.Bool.{Bool, true, false, cond}
use mathlib.Core.List.{List}
use Prim.Native.Nat.{ℕ, ◌+◌, ◌-◌, ◌≤◌}
use native.Mathlib.Omega.{arith}
use Rattle.std.proofs.Common.{Result, Ok, Err}
use lib.Dec.{ltb, lit≤}
use borrow.Author.Tests.{ltb-false}
use Rattle.command_words.specs.Words.{is_line, mast_words, mast_of, layout_of, request_of, Few}
use Rattle.command_words.specs.declared.Mast.{Mast}
use Rattle.command_words.specs.declared.MastError.{MastError}
use Rattle.command_words.specs.declared.Request.{Request}
use Rattle.command_words.specs.declared.WordsError.{WordsError}
use Rattle.command_words.specs.declared.WordsError.TheVariants.{TooFew, TooMany}

abbrev FewIn : Result Request WordsError → Type 0
FewIn (Ok r) = Few r.layout
FewIn (Err e) = Unit {0}

first_at : (received line : Bool) → cond received 2 1 + mast_words line ≤ 6
first_at true true = lit≤ tt
first_at true false = lit≤ tt
first_at false true = lit≤ tt
first_at false false = lit≤ tt

few : (received line : Bool) (m : Result Mast MastError) (n : ℕ) (a b : Bool) → ltb (mast_words line + 17) n ≡ b
    → FewIn (cond a (Err TooFew) (cond b (Err TooMany) (Ok (record { mast = m; layout = layout_of received (mast_words line) (n - (mast_words line + 1)) }))))
few received line m n true b e = tt
few received line m n false true e = tt
few received line m n false false e = record { files = omega (arith, ltb-false (mast_words line + 17) n e); first = first_at received line }

pub few_files : (received : Bool) (n : ℕ) (x y z i : List ℕ) {r : Request} → request_of received n x y z i ≡ Ok r → Few r.layout
unfolding request_of
few_files received n x y z i e =
    let line = is_line x in
    subst FewIn e (few received line (mast_of x y z i) n (ltb n (mast_words line + 2)) (ltb (mast_words line + 17) n) refl)
