-- `limit_for` meets its contract. Assumes nothing.

use Rattle.recorders.proofs.priority.limit_for.Goals as goal

pub returns-then-higher : goal.returns-then-higher
returns-then-higher c = rw c.if-higher.true

pub returns : goal.returns
returns c = rw c.if-higher.false
