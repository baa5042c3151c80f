-- `largest_swept` answers `largest_pair`, and what it carries is ready again. The loop's invariant: the pairs from k on are behind it, their figures
-- cleared. Assumes nothing.
use Rattle.theory.proofs.PairDelays.{Counted}
use Rattle.theory.proofs.SweptPairs.{Pairing}
use Rattle.completion.proofs.pair.largest_swept.Given as goal

abbrev pub invariant-loop-k : goal.invariant-loop-k
invariant-loop-k l =
    Pairing l.table.count l.table.columns l.bound l.own l.j l.initial.carried.delay l.k l.sum l.best l.carried.delay
    × Counted l.table.count l.table.columns l.carried.released
