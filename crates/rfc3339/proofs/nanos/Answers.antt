-- `rfc3339::nanos` meets its contract. Assumes nothing.
use mathlib.Core.Path.{sym}
use native.Mathlib.Omega.{arith}
use Rattle.rfc3339.proofs.Stamps.{nanos_kept, billionths}
use Rattle.rfc3339.proofs.nanos.Goals as goal

pub returns : goal.returns
returns c =
    let m = c.min-kept.ensures in
    record {
      is = rw (c.append.ensures.0, c.pow.ensures, m) (sym (nanos_kept c.args.l.now c.args.n));
      most = billionths c.append.ensures.1 c.pow.ensures (omega (arith, m));
    }
