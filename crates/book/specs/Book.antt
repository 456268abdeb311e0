-- The trial book of document 01: what a refinement by damped least squares (Marquardt 1963) does, trial by trial. Both
-- refinements of the fit keep one; the second's is document 01's. A set is a list of parameters. `sum` gives the penalised sum of a
-- set's residuals (none is refusal 23), `step` what table and step make of this damping and set; `enough` says that there are as
-- many residuals as parameters.
use Rattle.std.specs.Prelude.{◌≡◌, refl, Bool, false, cond, List, [], ◌∷◌, ◌++◌, ℕ, zero, suc, ◌+◌, eqb, Option as Maybe, Float}
use Rattle.std.proofs.Math.Option.{Option, none, some}
use Rattle.std.specs.Float.Ieee.{lt, of_bits, round}
use Rattle.refusal.specs.Numbers as refusal
use Rattle.refusal.specs.Refusals.{number_of, first_of, ◌when◌}
use Rattle.refusal.specs.declared.Refusal.{Refusal}
use Rattle.refusal.specs.declared.Refusal.TheVariants.{FarMoment}
use Rattle.float.specs.Constant.{decimal}
use Rattle.float.specs.Ops.{◌⊗◌, ◌⊘◌, one, bits, largest}
use Rattle.normal.specs.Step.{Outcome, next, short, refused}
use Rattle.book.specs.declared.Ending.{Ending}
use Rattle.book.specs.declared.Ending.TheVariants.{Running, Refused, Short, Damped, Converged}

unfoldable pub ten : Float
ten = decimal 10 0

pub ten_bits : bits 0x4024000000000000 ≡ ten
unfolding ten of_bits round
ten_bits = refl

-- the damping above which a refinement ends
unfoldable pub most_damping : Float
most_damping = decimal 1000000000000 0

pub most_damping_bits : bits 0x426d1a94a2000000 ≡ most_damping
unfolding most_damping of_bits round
most_damping_bits = refl

-- the size of a step at which a refinement ends
unfoldable pub small_step : Float
small_step = decimal 1 8

pub small_step_bits : bits 0x3e45798ee2308c3a ≡ small_step
unfolding small_step of_bits round
small_step_bits = refl

-- ---- the search of a refinement

-- the set to try next; the best sum, with its set (the start until one is kept); the damping
pub record Search : Type 0 where
  pub next : List Float
  pub best_set : List Float
  pub damping : Float
  pub best : Float

pub record After : Type 0 where
  pub search : Search
  pub ended : Ending

-- ---- a trial

-- a sum v below the best: kept with its set, and the damping divided by 10
abbrev pub keep : Float → Search → Search
keep v s = record { next = s.next; best_set = s.next; damping = s.damping ⊘ ten; best = v }

-- any other: back to the best set, and the damping multiplied by 10
abbrev pub leave : Search → Search
leave s = record { next = s.best_set; best_set = s.best_set; damping = s.damping ⊗ ten; best = s.best }

-- a sum below the best is kept; any other, whether equal, larger, infinite or not a number, leaves the best
unfoldable pub judged : Float → Search → After
judged v s =
    cond (lt v s.best) (record { search = keep v s; ended = Running })
    (record { search = leave s; ended = cond (lt most_damping (leave s).damping) Damped Running })

-- by the next set's sum, where it has one
abbrev pub compared : Option Float → Search → After
compared none s = record { search = s; ended = Refused FarMoment }
compared (some v) s = judged v s

-- ---- what follows it

-- where an outcome leads the search
abbrev pub arrival : Search → Outcome → After
arrival s (next x size) =
    record {
      search = record { next = x; best_set = s.best_set; damping = s.damping; best = s.best };
      ended = cond (lt size small_step) Converged Running;
    }
arrival s short = record { search = s; ended = Short }
arrival s (refused k) = record { search = s; ended = Refused k }

-- refusal 23 where the set has no residuals
abbrev pub unless_far : Option Float → Outcome → Outcome
unless_far none o = refused FarMoment
unless_far (some v) o = o

-- t where it still runs, else b
abbrev pub while_running : {A : Type 0} → Ending → A → A → A
while_running Running t b = t
while_running (Refused k) t b = b
while_running Short t b = b
while_running Damped t b = b
while_running Converged t b = b

-- ---- what an ending gives a fit

-- whether a refinement ended by 23; the solver's 22 ends one and refuses no fit
abbrev pub far_ending : Ending → Bool
far_ending Running = false
far_ending (Refused r) = eqb (number_of r) refusal.far_moment
far_ending Short = false
far_ending Damped = false
far_ending Converged = false

-- as a refusal
abbrev pub far_of : Ending → Maybe Refusal
far_of ended = first_of ((FarMoment when far_ending ended) ∷ [])

-- ---- the book

pub record Book : Type 0 where
  pub count : ℕ
  pub log : List Float
  pub tried : List (List Float)
  pub kept : List Float
  pub search : Search
  pub ended : Ending

-- count 0, an empty log, no set kept, the largest f64 as best; the damping is 1
unfoldable pub open_book : List Float → Book
open_book x =
    record {
      count = 0;
      log = [];
      tried = [];
      kept = [];
      search = record { next = x; best_set = x; damping = one; best = largest };
      ended = Running;
    }

-- the book with its search gone on to where a leads
abbrev pub gone_to : After → Book → Book
gone_to a b = record { count = b.count; log = b.log; tried = b.tried; kept = b.kept; search = a.search; ended = a.ended }

-- a trial of the next set, by its sum; refusal 23 logs and counts nothing
abbrev pub noted : Option Float → Book → Book
noted none b = gone_to (compared none b.search) b
noted (some v) b =
    record {
      count = b.count + 1;
      log = b.log ++ (v ∷ []);
      tried = b.tried ++ (b.search.next ∷ []);
      kept = b.kept ++ cond (lt v b.search.best) (v ∷ []) [];
      search = (judged v b.search).search;
      ended = (judged v b.search).ended;
    }

module _ (sum : List Float → Option Float) (step : Float → List Float → Outcome) (enough : Bool) where
  -- after a trial, in the reference's order: the residuals of the set at hand, which are worked out again where the best one was
  -- restored; their number; table and step
  unfoldable pub onward : Search → Outcome
  onward s = unless_far (sum s.next) (cond enough (step s.damping s.next) short)

  -- a turn's first half, the trial, and its second, what follows it; a fit may pause between them
  unfoldable pub trial : Book → Book
  trial b = while_running b.ended (noted (sum b.search.next) b) b

  unfoldable pub following : Book → Book
  following b = while_running b.ended (gone_to (arrival b.search (onward b.search)) b) b

  unfoldable pub turn : Book → Book
  turn b = following (trial b)

  -- the book of the start x after at most n trials
  unfoldable pub book : List Float → ℕ → Book
  book x zero = open_book x
  book x (suc n) = turn (book x n)
