-- What is promised of standard input: no contract can say which bytes a read gives.
use Rattle.std.specs.Prelude.{List, ℕ}
use Rattle.std.specs.Counts.{IsPrefixLen}
use Rattle.standard_input.specs.declared.Input.{Input}

-- the bytes that are counted stand in the buffer
abbrev pub ReadInto : Input → List ℕ → Type 0
ReadInto (Input.Bytes n) buffer = IsPrefixLen n buffer
ReadInto Input.Unreadable buffer = Unit {0}
