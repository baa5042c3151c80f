-- `first_pair` answers `first_pair`. The loop's invariant: the pairs from k on are behind it, and the first of them that gives the bound is known. Assumes nothing.
use Rattle.jobs.specs.Limits.{max_time}
use Rattle.completion.proofs.Counting.{lent_by}
use Rattle.theory.proofs.FirstPairs.{Found}
use Rattle.theory.proofs.Pairs.{round_at, Walked}
use Rattle.theory.specs.Bounds.{overlap}
use Rattle.completion.proofs.first.first_pair.Given as goal

abbrev pub invariant-loop-k : goal.invariant-loop-k
invariant-loop-k l =
    let t = lent_by l.table in
    Walked t (overlap t l.bound) max_time l.j l.k l.sum l.low (round_at t l.bound l.j) × Found t (overlap t l.bound) l.j l.k l.first
