-- `interference` answers the theory's. The loop's invariant: the shares of the chains before place i are added up. Assumes nothing.
use Prim.Native.Nat.{◌-◌}
use Rattle.jobs.specs.Limits.{max_time}
use Rattle.completion.proofs.Counting.{lent_by}
use Rattle.theory.proofs.Shares.{Shared}
use Rattle.theory.proofs.Weights.{spanned}
use Rattle.completion.proofs.interference.interference.Given as goal

abbrev pub invariant-loop-i : goal.invariant-loop-i
invariant-loop-i l = Shared (lent_by l.table) l.target.chain l.target.urgency (spanned l.table.columns l.bound l.target.from l.target.to) max_time l.i l.total

abbrev pub decreases-loop-i : goal.decreases-loop-i
decreases-loop-i l = l.table.count - l.i
