-- `decimal::read::append` meets its contract: what is left to be written after r makes the whole. Assumes nothing.
use Rattle.std.proofs.Common.{◌≡◌, ◌+◌, ◌*◌, ◌-◌, ◌^◌, ◌≤◌, ◌<◌, get_or, take, drop, ℕ, sym, ap, ◌∙◌, subst, arith}
use Rattle.decimal.specs.Read.{with_digits}
use Rattle.decimal.proofs.Scan.{run_from, value_after, digit_room, ten_fits, part_long, part_byte}
use Rattle.decimal.proofs.read.append.Goals.{In-loop-c}
use Rattle.decimal.proofs.read.append.Goals as goal

-- the byte, and what it says
abbrev byte : In-loop-c → ℕ
byte c = get_or c.args.l.now (c.args.at + c.loop-c.c-index) 0

inside : (c : In-loop-c) → c.loop-c.c-index < c.args.n
inside c = let e = part_long c.args.l.now c.args.at c.args.n c.requires.0 in omega (arith, c.loop-c-test.true)

digit : (c : In-loop-c) → (48 ≤ byte c) × (byte c ≤ 57)
digit c = run_from c.args.l.now c.args.at c.loop-c.c-index (let h = inside c in omega (arith, c.requires.1))

next : (c : In-loop-c) → c.loop-c.r * 10 + (byte c - 48) < 10 ^ (c.args.k + (c.loop-c.c-index + 1))
next c = digit_room c.loop-c.r (byte c) c.args.k c.loop-c.c-index c.loop-c.invariant.room (digit c).1

fits : (c : In-loop-c) → c.loop-c.r * 10 + (byte c - 48) < 2 ^ 64
fits c = ten_fits _ (c.args.k + (c.loop-c.c-index + 1)) (next c) (let h = inside c in omega (arith, c.requires.3))

is : (c : In-loop-c) → get_or (take (c.args.at + c.args.n - c.args.at) (drop c.args.at c.args.l.now)) c.loop-c.c-index 0 ≡ byte c
is c = part_byte c.args.l.now c.args.at c.args.n c.requires.0 c.loop-c.c-index (inside c)

pub overflow_mul-r : goal.overflow_mul-r
overflow_mul-r c = let h = fits c in omega arith

pub overflow_sub-c : goal.overflow_sub-c
overflow_sub-c c = rw (is (goal.at.overflow_sub-c c).In-loop-c) (digit (goal.at.overflow_sub-c c).In-loop-c).0

pub overflow_add-r : goal.overflow_add-r
overflow_add-r c = let x = (goal.at.overflow_add-r c).In-loop-c in record { fits = rw (c.from.ensures, is x) (fits x) }

pub loop-c-preserved : goal.loop-c-preserved
loop-c-preserved c =
    let x = (goal.at.loop-c-preserved c).In-loop-c in
    let e : c.from.result ≡ byte x - 48 = rw (c.from.ensures, is x) in
    let h = inside x in
    rw e (record {
      is = sym (value_after c.args.l.now c.args.at c.loop-c.c-index c.args.n c.loop-c.r (omega arith) h) ∙ c.loop-c.invariant.is;
      room = next x;
    })

pub returns : goal.returns
unfolding with_digits
returns c =
    let l = c.loop-c in
    let a = c.args in
    let e = part_long a.l.now a.at a.n c.requires.0 in
    let i : l.c-index ≡ a.n = omega (arith, c.loop-c-test.false, l.auto.c-index-end) in
    let z : 0 ≡ a.n - l.c-index = omega arith in
    (ap (λ (k : ℕ). with_digits l.r k (drop (a.at + l.c-index) a.l.now)) z ∙ l.invariant.is, subst (λ (k : ℕ). l.r < 10 ^ (a.k + k)) i l.invariant.room)
