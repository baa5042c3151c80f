-- `largest_scanned` answers `largest_pair`. The loop's invariant: the pairs from k on are behind it. Assumes nothing.
use Rattle.jobs.specs.Limits.{max_time}
use Rattle.completion.proofs.Counting.{lent_by}
use Rattle.theory.proofs.Pairs.{Walked}
use Rattle.theory.specs.Bounds.{overlap}
use Rattle.completion.proofs.pair.largest_scanned.Given as goal

abbrev pub invariant-loop-k : goal.invariant-loop-k
invariant-loop-k l = Walked (lent_by l.table) (overlap (lent_by l.table) l.bound) max_time l.j l.k l.sum l.low l.best
