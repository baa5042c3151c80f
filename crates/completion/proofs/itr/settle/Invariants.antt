-- `settle` answers the theory's `itr`. The loop's invariant: the bounds are those after the rounds so far, each of which changed some, what a sweep is lent
-- is ready, and the other array has nothing behind the jobs. The measure is what is left of the definition's rounds, of which theory proves that they
-- end. Assumes nothing.
use Prim.Native.Nat.{◌-◌}
use Rattle.completion.proofs.Rounding.{Rounding}
use Rattle.completion.proofs.Counting.{lent_by}
use Rattle.theory.proofs.Refilling.{Spare}
use Rattle.theory.proofs.SweptPairs.{Ready}
use Rattle.theory.specs.Bounds.{itr}
use Rattle.completion.proofs.itr.settle.Given as goal

abbrev pub invariant-loop-carried : goal.invariant-loop-carried
invariant-loop-carried l =
    Rounding (lent_by l.table) l.bounds l.rounds × Ready l.table.count l.table.columns l.carried.released l.carried.delay × Spare l.table.count l.next

abbrev pub decreases-loop-carried : goal.decreases-loop-carried
decreases-loop-carried l = (itr (lent_by l.table)).rounds - l.rounds
