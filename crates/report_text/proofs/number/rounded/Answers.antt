use Rattle.report_text.proofs.Pieces.{rounded_put}
use Rattle.report_text.proofs.number.rounded.Goals as goal

pub returns : goal.returns
returns c =
    rounded_put c.args.v c.millionths-n.ensures c.sign.ensures c.size.ensures
