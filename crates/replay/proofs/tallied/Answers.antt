use Rattle.replay.proofs.Counting.{last_line, asked_line}
use Rattle.replay.proofs.tallied.Goals as goal

pub returns-then-begins_with : goal.returns-then-begins_with
returns-then-begins_with c =
    last_line c.begins_with.ensures c.if-begins_with.true c.asked.ensures c.field.ensures c.ended.ensures

pub returns : goal.returns
returns c =
    asked_line c.found.result c.begins_with.ensures c.if-begins_with.false c.begins_with-changed.ensures c.noted.ensures
