-- `rotation_at` meets its contract. Assumes nothing.
use Rattle.residuals.proofs.Samples.{dated, rotated}
use Rattle.residuals.proofs.rotation_at.Goals as goal

pub jd_at-requires : goal.jd_at-requires
jd_at-requires c = rw c.instant.ensures.0 (dated c.args.n c.requires.0 c.requires.1)

pub returns : goal.returns
returns c = rotated _ _ _ _ c.instant.ensures.0 c.jd_at.ensures c.rotation.ensures.0 c.rotation.ensures.1
