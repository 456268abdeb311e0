-- `frequency` meets its contract. Assumes nothing.
use Rattle.std.proofs.Common.{◌≡◌, Result, Ok, Err, refl, ◌∙◌}
use Rattle.std.specs.Result.{result_unwrap_or}
use Rattle.std.specs.Float.{binary64}
use Rattle.std.specs.Float.Ieee.{Float, of_bits}
use Rattle.refusal.specs.declared.Refusal.{Refusal}
use Rattle.orbit.specs.Doppler.{frequency_of}
use Rattle.command.proofs.report.frequency.Goals as goal

by_case : (p : Result Float Refusal) → result_unwrap_or p (of_bits binary64 0x7ff8000000000000) ≡ frequency_of p
unfolding of_bits
by_case (Ok v) = refl
by_case (Err r) = refl

pub returns : goal.returns
returns c = c.unwrap_or.ensures ∙ by_case c.args.p
