-- `is_next_row` answers `is_next_row`. Assumes nothing.
use Rattle.recording.specs.Reading.{is_next_row}
use lib.Dec.{ltb, eqb}
use mathlib.Core.Bool.{Bool, ◌&&◌, ◌||◌}
use mathlib.Core.Path.{ap}
use Rattle.recording.proofs.row.is_next_row.Goals as goal

pub returns : goal.returns
unfolding is_next_row
returns c =
    let a = c.args in
    ap (λ (b : Bool). ltb a.row.at a.jobs && ltb a.row.from a.row.to && (eqb a.n 0 || b)) c.is_following-following.ensures
