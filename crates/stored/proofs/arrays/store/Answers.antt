-- `stored::arrays::store` meets its contract. Assumes nothing.
use mathlib.Core.Path.{ap, ◌∙◌}
use Prim.Native.Nat.{ℕ, ◌+◌, ◌-◌, ◌*◌}
use native.Mathlib.Omega.{arith}
use borrow.Rule.Slice.PartMut.{put_mid}
use Rattle.stored.proofs.Chunks.{ends_within, length_bytes, writing_none, writing_more, writing_all, put_span}
use Rattle.stored.proofs.arrays.store.Goals as goal

pub loop-k-init : goal.loop-k-init
loop-k-init g c = writing_none g.row.W g.T.LittleEndian.number c.args.numbers.now c.args.out.now c.requires

pub loop-k-preserved : goal.loop-k-preserved
loop-k-preserved g c =
    let i = c.loop-k.invariant in
    let w = g.row.W in
    let a = w * c.loop-k.k in
    let b = c.copy_from_slice.ensures.after ∙ c.to_bytes.ensures in
    writing_more c.index-numbers-k.result i c.loop-k-test.true c.index-numbers-k.is
    (ap (put_mid a (a + w - a) c.loop-k.out) b ∙ put_span a (a + w) c.loop-k.out _ (ap (λ (n : ℕ). a + n) (length_bytes w _)) (omega (arith, i.long, ends_within w c.loop-k.k _ c.loop-k-test.true)))

pub returns : goal.returns
returns g c = writing_all c.loop-k.invariant c.loop-k-test.false
