-- `gradient` meets its contract. Assumes nothing.
use Rattle.approach.specs.Sums.{gradient_of, eps_a_bits, eps_bits}
use Rattle.approach.proofs.sums.gradient.Goals as goal

pub returns : goal.returns
unfolding gradient_of
returns c =
    simp (
      c.rss-rss_u0.ensures,
      c.rss-rss_raan.ensures,
      c.rss-rss_i.ensures,
      c.rss-rss_a.ensures,
      c.rss-rss_base.ensures,
      eps_a_bits,
      eps_bits,
    )
