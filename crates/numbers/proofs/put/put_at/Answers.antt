-- `put_at` leaves the numbers at the place. Assumes nothing.
use Rattle.laws.proofs.Buffers.{copied-patched}
use mathlib.Core.Path.{refl}
use Rattle.numbers.proofs.put.put_at.Goals as goal

pub returns : goal.returns
returns c = (refl, rw c.copy_from_slice.ensures.after (copied-patched c.args.out.now c.args.at c.args.numbers.now))
