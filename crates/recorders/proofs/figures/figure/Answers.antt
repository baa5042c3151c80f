-- `figure` meets its contract. Assumes nothing.
use mathlib.Core.Path.{refl}
use Rattle.recorders.proofs.figures.figure.Goals as goal

pub returns : goal.returns
returns c = refl
