-- `stored::arrays::load` meets its contract. Assumes nothing.
use mathlib.Core.Path.{sym, ap, ◌∙◌}
use mathlib.Core.List.{List, ◌∷◌, map}
use Prim.Native.Nat.{ℕ, ◌+◌}
use native.Mathlib.Omega.{arith}
use lib.ListN.{drop}
use Rattle.std.proofs.lemmas.List.{length-map}
use Rattle.stored.specs.Numbers.{little_endian}
use Rattle.stored.proofs.Chunks.{filled_none, filled_more, mapped_next}
use Rattle.stored.proofs.arrays.load.Goals as goal

pub loop-k-init : goal.loop-k-init
loop-k-init g c = filled_none _ c.args.numbers.now (sym c.requires ∙ sym (length-map c.args.chunks.now _))

pub loop-k-preserved : goal.loop-k-preserved
loop-k-preserved g c =
    let f = λ (b : List ℕ). g.T.LittleEndian.of (little_endian g.row.W b) in
    let k = c.loop-k.k in
    let b = c.args.chunks.now in
    filled_more c.from_bytes.result c.loop-k.invariant (omega arith)
    (mapped_next f b k c.index-chunks-k.result c.loop-k-test.true
    ∙ ap (λ y. y ∷ drop (k + 1) (map f b)) (sym (c.from_bytes.ensures ∙ ap f c.index-chunks-k.is)))
