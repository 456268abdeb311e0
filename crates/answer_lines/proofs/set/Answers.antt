-- `answer_lines::set` meets its contract. Assumes nothing.
use Rattle.answer_lines.proofs.Laws.{set_read}
use Rattle.answer_lines.proofs.set.Goals as goal

pub returns : goal.returns
returns c =
    set_read _ c.after_list-at_centers.ensures c.after_list-at_times.ensures c.after_list-at_freqs.ensures
    c.from.ensures c.from-2.ensures c.from-3.ensures c.from-4.ensures
    c.fill.ensures c.fill-2.ensures c.fill-3.ensures c.fill-4.ensures
    c.field.ensures c.field-2.ensures c.field-3.ensures c.field-4.ensures
