-- `fit_orbit_doppler` meets its contract. Assumes nothing.
use mathlib.Core.Path.{◌≡◌, refl, sym, ap, ◌∙◌}
use mathlib.Core.List.{List}
use native.Mathlib.Omega.{arith}
use lib.Ieee.{Float}
use Prim.Native.Nat.{ℕ}
use lib.ListN.{length, replicate}
use borrow.Author.Rules.{rules}
use Rattle.std.proofs.Common.{None, Err}
use Rattle.refusal.proofs.Lists.{refused, accepted}
use Rattle.float.specs.Ops.{bits}
use Rattle.arguments.specs.Refusals.{input_refusal_of, room_refusal_of, InputAccepted}
use Rattle.arguments.specs.Passes.{non_empty}
use Rattle.arguments.proofs.Laws as given
use Rattle.fit.specs.Fit.{radius}
use Rattle.fit.specs.Answer.{arguments, observations, outputs, output_room}
use Rattle.fit.specs.Work.{WorkDone}
use Rattle.fit.proofs.Answers.{fits_input, fits_room, fits_worked, fits_found, few_passes, set_all, sampled_all, centred_all, some_all, work_all, work_err, work_ok, given_all, holds}
use Rattle.fit.proofs.fit_orbit_doppler.Goals.{In_ok-accept_input, In_ok-accept_room, After-refine_both-done}
use Rattle.fit.proofs.fit_orbit_doppler.Goals as goal

pub returns-in_err-accept_input : goal.returns-in_err-accept_input
returns-in_err-accept_input c =
    let e : c.from_residual.result ≡ Err c.in_err-accept_input.field-0.0 = search rules in
    rw e (fits_input _ _ _ (sym (refused _ _ _ (sym c.in_err-accept_input.was ∙ c.accept_input.ensures))))

-- the input is not refused
none : (c : In_ok-accept_input) → let a = c.args in input_refusal_of a.counts.now a.times.now a.freqs.now a.centers.now a.rec_ecef a.initial_a a.initial_i ≡ None
none c = (accepted _ _ _ (sym c.in_ok-accept_input.was ∙ c.accept_input.ensures)).0

taken : (c : In_ok-accept_input) → let a = c.args in InputAccepted a.counts.now a.times.now a.freqs.now a.centers.now a.rec_ecef a.initial_a a.initial_i
taken c = given.accepted _ _ _ _ _ _ _ (none c)

pub non_empty-kept-requires : goal.non_empty-kept-requires
non_empty-kept-requires c = (taken (goal.at.non_empty-kept-requires c).In_ok-accept_input).sizes.few

pub accept_room-requires : goal.accept_room-requires
accept_room-requires c = let ok = taken (goal.at.accept_room-requires c).In_ok-accept_input in (ok.sizes.small, few_passes ok c.non_empty-kept.ensures)

pub returns-in_err-accept_room : goal.returns-in_err-accept_room
returns-in_err-accept_room c =
    let e : c.from_residual-in_err-accept_room.result ≡ Err c.in_err-accept_room.field-0.0 = search rules in
    let n = none (goal.at.returns-in_err-accept_room c).In_ok-accept_input in
    rw e (fits_room _ _ _ n (sym (rw c.non_empty-kept.ensures.number at (refused _ _ _ (sym c.in_err-accept_room.was ∙ c.accept_room.ensures)))))

pub first_center-center_freq-requires : goal.first_center-center_freq-requires
first_center-center_freq-requires c = (taken (goal.at.first_center-center_freq-requires c).In_ok-accept_input).sizes.centred

pub moment_at-requires : goal.moment_at-requires
moment_at-requires c = let ok = taken (goal.at.moment_at-requires c).In_ok-accept_input in (ok.timed, omega (arith, ok.samples))

pub invariant_of-set : goal.invariant_of-set
invariant_of-set c = record { sound = set_all (taken (goal.at.invariant_of-set c).In_ok-accept_input) c.non_empty-kept.ensures _ }

pub invariant_of-x : goal.invariant_of-x
invariant_of-x c =
    let ok = taken (goal.at.invariant_of-x c).In_ok-accept_input in
    record { sampled = sampled_all ok c.non_empty-kept.ensures; dated = c.moment_at.ensures.1; centred = centred_all ok c.non_empty-kept.ensures _ }

pub radius_estimate-a_est-requires : goal.radius_estimate-a_est-requires
radius_estimate-a_est-requires c = some_all (taken (goal.at.radius_estimate-a_est-requires c).In_ok-accept_input) c.non_empty-kept.ensures

-- nor is the memory too short
room : (c : In_ok-accept_room) → let a = c.args in
    room_refusal_of (length a.times.now) (length (non_empty a.counts.now)) (output_room (outputs a.dts.now a.dfs.now a.df1s.now a.df2s.now a.log.now) a.scratch.now) ≡ None
room c = rw c.non_empty-kept.ensures.number at (accepted _ _ _ (sym c.in_ok-accept_room.was ∙ c.accept_room.ensures)).0

pub refine_both-done-requires : goal.refine_both-done-requires
refine_both-done-requires c =
    let a = c.args in
    (given_all (taken (goal.at.refine_both-done-requires c).In_ok-accept_input) c.non_empty-kept.ensures (outputs a.dts.now a.dfs.now a.df1s.now a.df2s.now a.log.now) a.scratch.now _ _ (room (goal.at.refine_both-done-requires c).In_ok-accept_room) refl refl refl, omega arith)

-- what the work comes to
work : (c : After-refine_both-done) → let a = c.args in let x = arguments a.counts.now a.times.now a.freqs.now a.centers.now a.rec_ecef a.initial_a a.initial_i in
    (old : List Float) × WorkDone (observations x) (radius (observations x)) a.initial_i old c.refine_both-done.new.log c.refine_both-done.result
work c =
    let a = c.args in
    let x = arguments a.counts.now a.times.now a.freqs.now a.centers.now a.rec_ecef a.initial_a a.initial_i in
    (_, work_all x _ _ _ _ _ _ _ c.non_empty-kept.ensures.kept c.moment_at.ensures.0 c.first_center-center_freq.ensures c.radius_estimate-a_est.ensures c.refine_both-done.ensures)

pub returns-in_err-t : goal.returns-in_err-t
returns-in_err-t c =
    let e : c.from_residual-in_err-t.result ≡ Err c.in_err-t.field-0.0 = search rules in
    rw e (fits_worked _ _ _ (none (goal.at.returns-in_err-t c).In_ok-accept_input) (room (goal.at.returns-in_err-t c).In_ok-accept_room) _ (c.clear.ensures ∙ ap (λ (n : ℕ). replicate n (bits 0)) c.refine_both-done.auto.scratch)
    (work_err _ _ _ _ _ _ (work (goal.at.returns-in_err-t c).After-refine_both-done).1 c.in_err-t.was))

pub put_answer-requires : goal.put_answer-requires
put_answer-requires c =
    let a = c.args in
    let done = work_ok _ _ _ _ _ _ (work (goal.at.put_answer-requires c).After-refine_both-done).1 c.in_ok-t.was in
    holds (arguments a.counts.now a.times.now a.freqs.now a.centers.now a.rec_ecef a.initial_a a.initial_i) (outputs a.dts.now a.dfs.now a.df1s.now a.df2s.now a.log.now) a.scratch.now
    (taken (goal.at.put_answer-requires c).In_ok-accept_input) _ c.non_empty-kept.ensures (room (goal.at.put_answer-requires c).In_ok-accept_room) _ _ _ done.1 c.refine_both-done.auto.log

pub returns : goal.returns
returns c =
    let done = work_ok _ _ _ _ _ _ (work (goal.at.returns c).After-refine_both-done).1 c.in_ok-t.was in
    fits_found _ _ _ (none (goal.at.returns c).In_ok-accept_input) (room (goal.at.returns c).In_ok-accept_room) _ (c.clear.ensures ∙ ap (λ (n : ℕ). replicate n (bits 0)) c.refine_both-done.auto.scratch)
    _ _ _ _ _ done (rw c.non_empty-kept.ensures.number at c.put_answer.ensures)
