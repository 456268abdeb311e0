-- `put_answer` meets its contract. Assumes nothing.
use mathlib.Core.Path.{sym}
use lib.Seq.{length-take-le}
use borrow.Author.Rules.{rules}
use Rattle.fit.specs.Answer.{outputs}
use Rattle.fit.proofs.Laws.{take_fits, puts}
use Rattle.fit.proofs.put_answer.Goals as goal

pub slice_bounds-put-end : goal.slice_bounds-put-end
slice_bounds-put-end c = sym (length-take-le _ _ (search rules))

pub put-requires : goal.put-requires
put-requires c =
    take_fits c.args.t.count _ c.args.sums.now c.requires.sums_room c.requires.log_room

pub returns : goal.returns
returns c =
    let a = c.args in
    puts a.t a.passes a.times.now a.sums.now (outputs a.dts.now a.dfs.now a.df1s.now a.df2s.now a.log.now) _ _ _ _ _ _
    c.put_biases.ensures c.put_biases-2.ensures c.put_biases-3.ensures c.put_biases-4.ensures c.put.ensures c.orbit_of.ensures
