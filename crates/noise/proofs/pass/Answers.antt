use Rattle.laws.proofs.Numbers.{wider}
use Rattle.noise.proofs.Fives.{few, many}
use Rattle.noise.proofs.pass.Goals as goal

pub returns-then-n-lt5 : goal.returns-then-n-lt5
returns-then-n-lt5 c =
    let a = c.args in
    (few a.times.now a.freqs.now a.n a.s c.if-n-lt5.true, wider a.s.at a.n c.ranges.n)

pub returns : goal.returns
returns c =
    let a = c.args in
    (many a.times.now a.freqs.now a.n a.s c.if-n-lt5.false c.windows-w.ensures, wider a.s.at a.n c.ranges.n)
