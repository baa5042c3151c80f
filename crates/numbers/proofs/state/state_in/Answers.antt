-- `state_in` answers `state_in`. Assumes nothing.
use Rattle.numbers.proofs.States.{state_read}
use Rattle.numbers.proofs.state.state_in.Goals as goal

pub returns : goal.returns
returns c =
    state_read _ _ _ _ c.number_at.ensures c.column_in.ensures c.column_in-2.ensures
