-- `stored::store` meets its contract. Assumes nothing.
use mathlib.Core.Path.{sym, ◌∙◌}
use native.Mathlib.Omega.{arith}
use Rattle.pass_set.proofs.Laws.{sizes}
use Rattle.stored.proofs.Words.{to_bytes_4}
use Rattle.stored.proofs.Whole.{store_range, store_sizes, store_short, store_all}
use Rattle.stored.proofs.store.Goals as goal

pub returns-then-not-all_in_range : goal.returns-then-not-all_in_range
returns-then-not-all_in_range c = store_range _ _ _ _ (sym c.all_in_range.ensures ∙ c.if-not-all_in_range.true)

pub returns-then-not-sizes_agree : goal.returns-then-not-sizes_agree
returns-then-not-sizes_agree c =
    store_sizes _ _ _ _ (sym c.all_in_range.ensures ∙ c.if-not-all_in_range.false) (sym c.sizes_agree.ensures ∙ c.if-not-sizes_agree.true)

pub overflow_add-size : goal.overflow_add-size
overflow_add-size c = let z = sizes (sym c.sizes_agree.ensures ∙ c.if-not-sizes_agree.false) in omega arith

pub returns-then-out-size : goal.returns-then-out-size
returns-then-out-size c =
    store_short _ _ _ _ (sym c.all_in_range.ensures ∙ c.if-not-all_in_range.false) (sym c.sizes_agree.ensures ∙ c.if-not-sizes_agree.false) c.if-out-size.true

pub overflow_cast-counts : goal.overflow_cast-counts
overflow_cast-counts c = let z = sizes (sym c.sizes_agree.ensures ∙ c.if-not-sizes_agree.false) in omega arith

pub returns : goal.returns
returns c =
    let a = c.args in
    store_all a.counts.now a.times.now a.freqs.now a.out.now (sym c.all_in_range.ensures ∙ c.if-not-all_in_range.false) (sym c.sizes_agree.ensures ∙ c.if-not-sizes_agree.false) c.if-out-size.false
    (c.copy_from_slice.ensures.after ∙ c.to_le_bytes.ensures ∙ to_bytes_4 _) c.store.ensures c.store-2.ensures c.store-3.ensures
