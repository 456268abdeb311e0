use Rattle.float.specs.Ops.{one_bits}
use Rattle.noise.proofs.Fives.{like, unlike}
use Rattle.noise.proofs.window.Goals as goal

pub returns-then-not-apart : goal.returns-then-not-apart
returns-then-not-apart c = like _ _ _ _ c.products-p.ensures c.apart.ensures c.if-not-apart.true

pub returns : goal.returns
returns c =
    rw one_bits (unlike _ _ _ _ c.products-p.ensures c.apart.ensures c.if-not-apart.false c.weights-w.ensures c.frequencies.ensures c.difference.ensures c.size.ensures)
