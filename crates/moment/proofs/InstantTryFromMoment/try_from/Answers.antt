use Rattle.std.proofs.Common.{◌≡◌, ℕ, ℤ, ap, ◌∙◌, w64, SFits}
use mir.ValLaws.{to_z-of_z}
use Rattle.moment.specs.Time.{seconds_of}
use Rattle.moment.proofs.Signs.{read}
use Rattle.moment.proofs.Ranges.{beyond, within}
use Rattle.moment.proofs.InstantTryFromMoment.try_from.Goals as goal

-- the count of the field's own number
same : (k : ℕ) (s : ℤ) → SFits w64 s → k ≡ seconds_of (read s) → k ≡ seconds_of s
same k s f e = e ∙ ap seconds_of (to_z-of_z w64 s f)

pub returns-then-t-lt1000000000 : goal.returns-then-t-lt1000000000
returns-then-t-lt1000000000 c =
    within _ _ _ (same _ _ (record { sfits = c.struct_told-1.given.0.1 }) c.seconds_of-secs.ensures) c.if-secs-ge-START_1957.true c.if-secs-lt-START_2057.true c.if-t-lt1000000000.true

pub returns-else-secs-ge-START_1957 : goal.returns-else-secs-ge-START_1957
returns-else-secs-ge-START_1957 c =
    beyond _ _ _ (same _ _ (record { sfits = c.struct_told-1.given.0.1 }) c.seconds_of-secs.ensures) c.else-secs-ge-START_1957.either
