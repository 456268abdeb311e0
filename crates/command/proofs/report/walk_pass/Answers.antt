-- `walk_pass` meets its contract. Assumes nothing.
use Rattle.std.proofs.Common.{rules}
use Rattle.laws.proofs.Numbers.{wider}
use Rattle.command.proofs.Reports.{walks, walks_none}
use Rattle.command.proofs.report.walk_pass.Goals as goal

pub returns-then-n-eq0 : goal.returns-then-n-eq0
returns-then-n-eq0 c =
    let a = c.args in
    (walks_none a.times.now a.freqs.now a.g a.b a.n a.w c.if-n-eq0.true, search rules, search rules)

pub returns : goal.returns
returns c =
    let a = c.args in (
      walks a.times.now a.freqs.now a.g a.b a.n a.w c.if-n-eq0.false c.moment_at-since.ensures c.squares-sum.ensures,
      wider a.w.at a.n c.ranges.n,
      search rules,
    )
