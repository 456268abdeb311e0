-- `to_moment` meets its contract. Assumes nothing.
use Rattle.std.proofs.Common.{ℕ, ◌^◌, ◌<◌, pos, ◌-ℤ◌, ap, ◌∙◌, arith, lit<, w64, SFits, to_z}
use mir.ValLaws.{to_z-of_z, to_z_pos}
use Rattle.moment.specs.Origin.{start1970}
use Rattle.moment.specs.Range.{Within}
use Rattle.moment.specs.Sample.{instant_at}
use Rattle.moment.proofs.Samples.{read_moment, sub_fits}
use Rattle.moment.proofs.sample.to_moment.Goals as goal

seconds-fit : (s n : ℕ) → Within 0 s n → SFits w64 (to_z w64 s -ℤ pos start1970)
seconds-fit s n w =
    let small : s < 2 ^ 63 = omega (arith, w.high) in
    rw (to_z_pos w64 s small) (sub_fits s start1970 small (lit< tt))

pub overflow_sub-result : goal.overflow_sub-result
overflow_sub-result c = seconds-fit _ _ c.of_nanos-m.ensures.1

pub returns : goal.returns
returns c =
    read_moment c.args.t c.requires c.of_nanos-m.result (c.of_nanos-m.ensures.0 ∙ ap instant_at (to_z-of_z w64 c.args.t c.ranges.t))
