-- The powers whose roots are taken. Definitions only.
use Rattle.std.specs.Prelude.{ℕ, ◌*◌}

abbrev pub square : ℕ → ℕ
square a = a * a

abbrev pub cube : ℕ → ℕ
cube a = a * a * a
