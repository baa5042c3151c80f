-- `is_held_up` meets its contract. Assumes nothing.
use Rattle.legality.proofs.Judging.{held_up}
use Rattle.recorders.proofs.Priorities.{one_stretch}
use mathlib.Core.Path.{◌∙◌}
use Rattle.recorders.proofs.priority.is_held_up.Goals as goal

pub returns : goal.returns
unfolding held_up
returns c =
    let at_done = c in
    let at_ready = at_done in
    let at_limit = at_ready in
    let at-urgency = at_limit in
    let at_row = at-urgency.before in
    let start = at_row in
    c.meets.ensures
    ∙ rw (at_limit.limit_for-limit.ensures, at_ready.figure-ready.ensures, at_done.figure-done.ensures, at_row.figure.ensures, at-urgency.figure-2.ensures)
    (one_stretch start.args.gap start.args.row.from start.args.row.to _ _ start.requires.1.after start.requires.1.lasts _)
