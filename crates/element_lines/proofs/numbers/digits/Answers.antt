-- `element_lines::numbers::digits` meets its contract: the number so far, with what is left, is the whole. Assumes nothing.
use mathlib.Core.Path.{refl, sym, ap, ◌∙◌}
use Prim.Native.Nat.{◌+◌}
use native.Mathlib.Omega.{arith}
use lib.Dec.{lit<}
use lib.ListN.{drop}
use Rattle.tle.specs.Printed.{read_digits}
use Rattle.element_lines.proofs.Digits.{next, end, twelve, one_more}
use Rattle.element_lines.proofs.numbers.digits.Goals as goal

pub loop-c-init : goal.loop-c-init
loop-c-init c = record { low = lit< tt; is = refl }

pub with_byte-n-requires : goal.with_byte-n-requires
with_byte-n-requires c = let l = c.loop-c in twelve l.n l.c-index l.invariant.low (omega (arith, c.requires))

pub loop-c-preserved : goal.loop-c-preserved
loop-c-preserved c =
    let l = c.loop-c in
    let w = c.with_byte-n.ensures in
    let all = c.args.l.now in
    record {
      low = one_more _ l.n l.c-index l.invariant.low w.1;
      is = ap (λ r. read_digits r (drop (l.c-index + 1) all)) w.0 ∙ next l.n l.c-index all (omega arith) ∙ l.invariant.is;
    }

pub returns : goal.returns
returns c =
    let l = c.loop-c in
    (sym (end l.n l.c-index _ (omega arith) c.loop-c-test.false) ∙ l.invariant.is, twelve l.n l.c-index l.invariant.low (omega (arith, c.requires)))
