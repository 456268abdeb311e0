-- Bytes that lie eight to a field, put into an array: its first n are those that are stored. And the last 70 of a text. Assumes nothing.
use mathlib.Core.Path.{◌≡◌, refl, ap, ◌∙◌}
use mathlib.Core.List.{List, [], ◌∷◌}
use Prim.Native.Nat.{ℕ, zero, suc, ◌+◌, ◌-◌, ◌≤◌, ◌<◌}
use native.Mathlib.Omega.{arith}
use lib.ListN.{length, get_or, take, drop, length-drop}
use Rattle.answer_lines.specs.Lines.{packed_byte, FilledBy}
use Rattle.replay_lines.specs.Agreement.{packed_bytes}

unpacked_from : (fields : List ℕ) (i n : ℕ) (l : List ℕ) → n ≤ length l → ((k : ℕ) → k < length l → get_or l k 0 ≡ packed_byte fields (i + k)) → take n l ≡ packed_bytes fields i n
unfolding packed_bytes
unpacked_from fields i zero l h f = refl
unpacked_from fields i (suc n) [] h f = absurd (omega arith)
unpacked_from fields i (suc n) (c ∷ l) h f =
    let z : i + 0 ≡ i = omega arith in
    let e : c ≡ packed_byte fields i = f 0 (omega arith) ∙ ap (packed_byte fields) z in
    rw e (ap (λ (t : List ℕ). packed_byte fields i ∷ t) (unpacked_from fields (i + 1) n l (omega arith) (λ k b. f (suc k) (omega arith) ∙ (let s : i + suc k ≡ i + 1 + k = omega arith in ap (packed_byte fields) s))))

pub unpacked : (fields l : List ℕ) (n : ℕ) → n ≤ length l → FilledBy (packed_byte fields) 0 l → take n l ≡ packed_bytes fields 0 n
unpacked fields l n h f = unpacked_from fields 0 n l h (λ k b. let z : k ≡ 0 + k = omega arith in f.at k b ∙ ap (packed_byte fields) z)

pub last_70 : (l w : List ℕ) → length l ≡ length w → 70 ≤ length w → 70 ≤ length (drop (length w - 70) l)
last_70 l w e h = omega (arith, length-drop (length w - 70) l, e, h)
