use Rattle.std.proofs.Common.{refl}
use Rattle.append.proofs.Appending.{placed}
use Rattle.append.proofs.Text.put.Goals as goal

pub returns : goal.returns
returns c =
    let t = c.args.self.now in
    record {
      appends = placed c.args.piece.now t.out.now t.at t.within c.min-n.ensures c.copy_from_slice.ensures.after;
      same_buffer = refl;
    }
