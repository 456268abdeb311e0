-- `stored::load` meets its contract. Assumes nothing.
use mathlib.Core.Path.{refl, sym, ◌∙◌}
use native.Mathlib.Omega.{arith}
use lib.Dec.{lit<}
use lib.Ieee.{binary64, of_bits}
use Rattle.stored.specs.Numbers.{time_of}
use Rattle.stored.proofs.Chunks.{part_numbers}
use Rattle.stored.proofs.Whole.{known, unsized, tested, load_sizes, load_range, load_short, load_all}
use Rattle.stored.proofs.load.Goals as goal

pub returns-in_default : goal.returns-in_default
returns-in_default c = let a = c.args in load_sizes a.b.now a.counts.now a.times.now a.freqs.now (unsized a.b.now (sym c.sizes_in.ensures.value ∙ c.in_default.is))

pub returns-then-not-in_range : goal.returns-then-not-in_range
returns-then-not-in_range c =
    let a = c.args in
    let k = known a.b.now (sym c.sizes_in.ensures.value ∙ c.in-Some.is) in
    load_range a.b.now a.counts.now a.times.now a.freqs.now k (sym (tested k (omega (arith, c.in-Some.ensures.room.size)) c.as_chunks-2.ensures.front c.in_range.ensures) ∙ c.if-not-in_range.true)

pub returns-then-counts-set : goal.returns-then-counts-set
returns-then-counts-set c =
    let a = c.args in
    let k = known a.b.now (sym c.sizes_in.ensures.value ∙ c.in-Some.is) in
    load_short a.b.now a.counts.now a.times.now a.freqs.now k (sym (tested k (omega (arith, c.in-Some.ensures.room.size)) c.as_chunks-2.ensures.front c.in_range.ensures) ∙ c.if-not-in_range.false) c.then-counts-set.either

pub returns : goal.returns
returns c =
    let a = c.args in
    let b = a.b.now in
    let s = c.in-Some.set in
    let k = known b (sym c.sizes_in.ensures.value ∙ c.in-Some.is) in
    load_all b a.counts.now a.times.now a.freqs.now k (sym (tested k (omega (arith, c.in-Some.ensures.room.size)) c.as_chunks-2.ensures.front c.in_range.ensures) ∙ c.if-not-in_range.false)
    c.if-counts-set.false c.if-times-set.false c.if-freqs-set.false
    (c.load.ensures ∙ part_numbers 4 (λ v. v) 4 _ s.passes b (lit< tt) refl (omega (arith, c.in-Some.ensures.room.size)) c.as_chunks.ensures.front)
    (c.load-2.ensures ∙ part_numbers 8 time_of _ _ s.samples b (lit< tt) refl (omega (arith, c.in-Some.ensures.room.size)) c.as_chunks-2.ensures.front)
    (c.load-3.ensures ∙ part_numbers 8 (of_bits binary64) _ _ s.samples b (lit< tt) (omega (arith, c.in-Some.ensures.room.size)) (omega arith) c.as_chunks-3.ensures.front)
