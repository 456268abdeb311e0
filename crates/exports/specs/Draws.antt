-- The generator by its state.
use Rattle.std.specs.Prelude.{ℕ}
use Rattle.monna.specs.declared.rng.SimpleRng.{SimpleRng}

abbrev pub generator : ℕ → SimpleRng
generator s = record { state = s }
