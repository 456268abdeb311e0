-- `add` meets its contract. Assumes nothing.
use Rattle.std.proofs.Common.{arith, rules}
use Rattle.command.proofs.Sets.{add_none, pass_room, sample_room, times_room, add_more}
use Rattle.command.proofs.gather.add.Goals as goal

pub returns-in_err-r : goal.returns-in_err-r
returns-in_err-r c = add_none _ _ _ _ _ _ _ _ _ _ _ c.add_file.ensures c.in_err-r.was (search rules)

pub overflow_add-e : goal.overflow_add-e
overflow_add-e c =
    record { fits = omega (arith, sample_room _ c.args.g _ _ _ _ _ _ _ _ c.args.name.now c.add_file.ensures c.in_ok-r.was, c.well_formed.1.1.1.1.0.0) }

pub offset_bounds-times-s : goal.offset_bounds-times-s
offset_bounds-times-s c =
    record { fits = omega (arith, sample_room _ c.args.g _ _ _ _ _ _ _ _ c.args.name.now c.add_file.ensures c.in_ok-r.was, c.well_formed.1.1.1.1.0.0) }

pub slice_bounds-first_key-end : goal.slice_bounds-first_key-end
slice_bounds-first_key-end c =
    omega (arith, times_room _ c.args.g _ _ _ _ _ _ _ _ c.args.name.now c.add_file.ensures c.in_ok-r.was, c.times-1.given)

pub overflow_add-result : goal.overflow_add-result
overflow_add-result c =
    record { fits = omega (arith, pass_room _ c.args.g _ _ _ _ _ _ _ _ c.args.name.now c.add_file.ensures c.in_ok-r.was, c.well_formed.1.1.0.0) }

pub returns : goal.returns
returns c =
    add_more _ _ _ _ _ _ _ _ _ _ _ c.add_file.ensures c.in_ok-r.was _ (search rules) (search rules) (search rules) (search rules) (search rules) c.first_key-key.ensures c.keep_name-kept.ensures
