-- The lines before document 02 [3] and now: line 2 and the text as they were defined, and where the new ones agree with them. Assumes nothing.
use mathlib.Core.Path.{◌≡◌, refl, sym, ap, ◌∙◌}
use mathlib.Core.List.{List, ◌∷◌, ◌++◌}
use Prim.Native.Nat.{ℕ}
use lib.Ieee.{Float, of_bits}
use Rattle.text.specs.Text.{bytes, code}
use Rattle.float.specs.Ops.{bits}
use Rattle.decimal.specs.Fixed.{nearest_units, fixed_text, cell_at}
use Rattle.tle.specs.Elements.{whole_turn, printed_degrees, within_turn, mean_motion_of, line_epoch}
use Rattle.tle.specs.Lines.{body2, closed, line1, line2, catalog_of}
use Rattle.tle.specs.Printed.{columns_of}
use Rattle.solution.specs.declared.SolvedOrbit.{SolvedOrbit}
use Rattle.tle.proofs.Turn.{turn_zero, turn_same}
use Rattle.tle.proofs.Printed.{node_at, anomaly_at}

unfoldable pub line2_before : SolvedOrbit → List ℕ
line2_before o = closed (body2 (printed_degrees o.i) (printed_degrees o.raan0) (printed_degrees o.u0) (mean_motion_of o.a))

unfoldable pub catalog_before : List ℕ → SolvedOrbit → List ℕ
catalog_before name o = name ++ code "\n" ∷ line1 (line_epoch o.epoch) ++ code "\n" ∷ line2_before o ++ bytes "\n"

-- an angle of so many radians rounds to a turn: it printed 360.0000
abbrev pub RoundsToTurn : Float → Type 0
RoundsToTurn x = nearest_units 4 (printed_degrees x) ≡ whole_turn

-- ---- where neither angle did, the text is the one before, byte for byte
pub unchanged_line : (o : SolvedOrbit) → (RoundsToTurn o.raan0 → ⊥) → (RoundsToTurn o.u0 → ⊥) → line2 o ≡ line2_before o
unfolding line2 line2_before
unchanged_line o r u = rw (turn_same (printed_degrees o.raan0) r, turn_same (printed_degrees o.u0) u)

pub unchanged : (name : List ℕ) (o : SolvedOrbit) → (RoundsToTurn o.raan0 → ⊥) → (RoundsToTurn o.u0 → ⊥) → catalog_of name o ≡ catalog_before name o
unfolding catalog_of catalog_before
unchanged name o r u = rw (unchanged_line o r u)

-- ---- each angle alone, whatever the other did
abbrev pub angle_text : Float → List ℕ
angle_text v = fixed_text (code " ") 4 (nearest_units 4 v) 8

now_node : (o : SolvedOrbit) → columns_of 18 25 (line2 o) ≡ angle_text (within_turn (printed_degrees o.raan0))
unfolding line2
now_node o = node_at _ _ _ _

now_anomaly : (o : SolvedOrbit) → columns_of 44 51 (line2 o) ≡ angle_text (within_turn (printed_degrees o.u0))
unfolding line2
now_anomaly o = anomaly_at _ _ _ _

before_node : (o : SolvedOrbit) → columns_of 18 25 (line2_before o) ≡ angle_text (printed_degrees o.raan0)
unfolding line2_before
before_node o = node_at _ _ _ _

before_anomaly : (o : SolvedOrbit) → columns_of 44 51 (line2_before o) ≡ angle_text (printed_degrees o.u0)
unfolding line2_before
before_anomaly o = anomaly_at _ _ _ _

pub node_unchanged : (o : SolvedOrbit) → (RoundsToTurn o.raan0 → ⊥) → columns_of 18 25 (line2 o) ≡ columns_of 18 25 (line2_before o)
node_unchanged o h = now_node o ∙ ap angle_text (turn_same (printed_degrees o.raan0) h) ∙ sym (before_node o)

pub anomaly_unchanged : (o : SolvedOrbit) → (RoundsToTurn o.u0 → ⊥) → columns_of 44 51 (line2 o) ≡ columns_of 44 51 (line2_before o)
anomaly_unchanged o h = now_anomaly o ∙ ap angle_text (turn_same (printed_degrees o.u0) h) ∙ sym (before_anomaly o)

-- ---- an angle that did print 360.0000 prints 0.0000
turn_text : fixed_text (code " ") 4 whole_turn 8 ≡ bytes "360.0000"
unfolding fixed_text cell_at
turn_text = refl

zero_text : angle_text (bits 0) ≡ bytes "  0.0000"
unfolding fixed_text cell_at of_bits
zero_text = refl

-- the columns before and now
abbrev pub Zeroed : List ℕ → List ℕ → Type 0
Zeroed before l = (before ≡ bytes "360.0000") × (l ≡ bytes "  0.0000")

pub zeroed : (v : Float) → nearest_units 4 v ≡ whole_turn → Zeroed (angle_text v) (angle_text (within_turn v))
zeroed v h = (ap (λ (n : ℕ). fixed_text (code " ") 4 n 8) h ∙ turn_text, ap angle_text (turn_zero v h) ∙ zero_text)

pub node_zeroed : (o : SolvedOrbit) → RoundsToTurn o.raan0 → Zeroed (columns_of 18 25 (line2_before o)) (columns_of 18 25 (line2 o))
node_zeroed o h = rw (now_node o, before_node o) (zeroed (printed_degrees o.raan0) h)

pub anomaly_zeroed : (o : SolvedOrbit) → RoundsToTurn o.u0 → Zeroed (columns_of 44 51 (line2_before o)) (columns_of 44 51 (line2 o))
anomaly_zeroed o h = rw (now_anomaly o, before_anomaly o) (zeroed (printed_degrees o.u0) h)

-- ---- the columns around them, up to the checksum, are as they were for every orbit
pub others_unchanged : (o : SolvedOrbit)
    → (columns_of 1 17 (line2 o) ≡ columns_of 1 17 (line2_before o)) × (columns_of 26 43 (line2 o) ≡ columns_of 26 43 (line2_before o)) × (columns_of 52 68 (line2 o) ≡ columns_of 52 68 (line2_before o))
unfolding line2 line2_before closed body2 fixed_text
others_unchanged o = (refl, refl, refl)
