-- `is_following` answers `follows`. Assumes nothing.
use Rattle.recording.specs.Rows.{follows}
use mathlib.Core.Path.{refl}
use Rattle.recording.proofs.row.is_following.Goals as goal

pub returns : goal.returns
unfolding follows
returns c = refl
