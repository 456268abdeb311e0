-- `passes::pieces::ascii` meets its contract: the library tests the bytes as the definition does. Assumes nothing.
use Rattle.passes.proofs.Texts.{ascii_told}
use Rattle.passes.proofs.pieces.ascii.Goals as goal

pub returns : goal.returns
returns c = ascii_told c.is_ascii.result c.args.l.now c.is_ascii.ensures.cases
