use Rattle.frame.specs.Julian.{jd_at}
use Rattle.frame.proofs.jd_at.Goals as goal

pub returns : goal.returns
unfolding jd_at
returns c = simp (c.jd.ensures, c.day_part.ensures, c.date_of.ensures)
