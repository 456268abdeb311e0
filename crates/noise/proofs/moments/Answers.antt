use Rattle.noise.specs.Noise.{moments_at}
use Rattle.noise.proofs.moments.Goals as goal

pub returns : goal.returns
unfolding moments_at
returns c =
    simp (c.seconds.ensures, c.seconds-2.ensures, c.seconds-3.ensures, c.seconds-4.ensures, c.seconds-5.ensures)
