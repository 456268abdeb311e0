-- `to_nanos` meets its contract. Assumes nothing.
use Rattle.std.proofs.Common.{◌+◌, ◌-◌, ◌*◌, arith, lit<}
use Rattle.moment.specs.Origin.{count1970, counts_start}
use Rattle.moment.proofs.Samples.{read_sub, read_since, sub_fits}
use Rattle.moment.proofs.sample.to_nanos.Goals as goal

pub overflow_sub-result : goal.overflow_sub-result
overflow_sub-result c =
    let m = c.args.m in
    let w = c.requires in
    rw (read_sub ((m.secs - counts_start) * 1000000000 + m.nanos) (omega arith)) (sub_fits ((m.secs - counts_start) * 1000000000 + m.nanos) count1970 (omega arith) (lit< tt))

pub returns : goal.returns
returns c = read_since c.args.m c.requires
