use mathlib.Core.Path.{◌≡◌, sym, ap, ◌∙◌, subst}
use Prim.Native.Nat.{ℕ, ◌≤◌}
use native.Mathlib.Omega.{arith}
use lib.Dec.{T, lit<, lit≤}
use lib.Ieee.{Float}
use Rattle.decimal.specs.Fixed.{within, printable}
use Rattle.tle.specs.Answer.{angle_fits}
use Rattle.tle.specs.Elements.{printed_degrees, within_turn}
use Rattle.tle.specs.Lines.{line2}
use Rattle.tle.proofs.Ranges.{UpTo, prints}
use Rattle.tle.proofs.Turn.{turn_up}
use Rattle.tle.proofs.Accepted.{sound, angle_up, motion_up}
use Rattle.tle.proofs.second_line.Goals as goal

-- an angle of the orbit, and its columns
held : (x r : Float) → T (angle_fits x) → r ≡ printed_degrees x → T (within r)
held x r f e = subst (λ (v : Float). T (within v)) (sym e) (angle_up x f).range

columns : (v r : Float) (at : ℕ) → UpTo 360 v → at ≤ 61 → r ≡ v → T (printable r 4 8 at 69)
columns v r at u h e =
    subst (λ (w : Float). T (printable w 4 8 at 69)) (sym e) (prints v 4 8 at 360 u (lit≤ tt) (lit≤ tt) (lit≤ tt) (omega arith) (omega arith) (lit< tt))

held-columns : (x d r : Float) (at : ℕ) → T (angle_fits x) → at ≤ 61 → d ≡ printed_degrees x → r ≡ within_turn d → T (printable r 4 8 at 69)
held-columns x d r at f h e q = columns (within_turn (printed_degrees x)) r at (turn_up (printed_degrees x) (angle_up x f)) h (q ∙ ap within_turn e)

pub within_turn-raan_deg-requires : goal.within_turn-raan_deg-requires
within_turn-raan_deg-requires c =
    held c.args.orbit.raan0 _ (sound c.args.orbit c.requires).raan0_fits c.degrees.ensures

pub within_turn-u0_deg-requires : goal.within_turn-u0_deg-requires
within_turn-u0_deg-requires c =
    held c.args.orbit.u0 _ (sound c.args.orbit c.requires).u0_fits c.degrees-2.ensures

pub line_2-requires : goal.line_2-requires
line_2-requires c =
    let o = c.args.orbit in
    let s = sound o c.requires in (
      columns (printed_degrees o.i) _ 8 (angle_up o.i s.i_fits) (lit≤ tt) c.degrees-i_deg.ensures,
      held-columns o.raan0 _ _ 17 s.raan0_fits (lit≤ tt) c.degrees.ensures c.within_turn-raan_deg.ensures,
      held-columns o.u0 _ _ 43 s.u0_fits (lit≤ tt) c.degrees-2.ensures c.within_turn-u0_deg.ensures,
      subst (λ (v : Float). T (printable v 8 11 52 69)) (sym c.mean_motion.ensures)
          (prints _ 8 11 52 54 (motion_up o.a s.radius) (lit≤ tt) (lit≤ tt) (lit≤ tt) (lit≤ tt) (lit≤ tt) (lit< tt)),
    )

pub returns : goal.returns
unfolding line2
returns c =
    c.line_2.ensures
    ∙ simp (c.mean_motion.ensures, c.within_turn-u0_deg.ensures, c.degrees-2.ensures, c.within_turn-raan_deg.ensures, c.degrees.ensures, c.degrees-i_deg.ensures)
