-- `Text::put_number` meets its contract. Assumes nothing.
use mathlib.Core.Path.{◌≡◌}
use mathlib.Core.List.{List, [], ◌∷◌}
use Prim.Native.Nat.{ℕ, zero, suc, ◌-◌, ◌≤◌, ◌<◌}
use native.Mathlib.Omega.{arith}
use Rattle.decimal.specs.Fixed.{digit_at}
use Rattle.append.specs.declared.Text.{Text}
use Rattle.append.specs.Append.{Puts, leading_of, digits_from}
use Rattle.append.proofs.Appending.{Rest, goes_on}
use Rattle.append.proofs.Text.put_number.Goals as goal

turn : (n : ℕ) {whole : List ℕ} {t₀ t u : Text} (i : ℕ) → 0 < i → Rest (digits_from n i) t whole t₀ → Puts (leading_of n i) t u → Rest (digits_from n (i - 1)) u whole t₀
unfolding digits_from
turn n zero h r f = absurd (let z : 0 < 0 = h in omega arith)
turn n (suc i) h r f = let e : suc i - 1 ≡ i = omega arith in rw e (goes_on r f)

done : (n : ℕ) {d : ℕ} {whole : List ℕ} {t₀ t u : Text} (i : ℕ) → i ≤ 0 → Rest (digits_from n i) t whole t₀ → d ≡ digit_at n 0 → Puts (d ∷ []) t u → Puts whole t₀ u
unfolding digits_from
done n zero h r e f = r.gives (rw e at f)
done n (suc i) h r e f = absurd (omega arith)

pub loop-i-preserved : goal.loop-i-preserved
loop-i-preserved c = turn c.args.n (c.loop-i.i - 1) (omega (arith, c.loop-i-test.true)) c.loop-i.invariant c.put_leading.ensures

pub returns : goal.returns
returns c = done c.args.n (c.loop-i.i - 1) (omega (arith, c.loop-i-test.false)) c.loop-i.invariant c.digit.ensures c.put.ensures
