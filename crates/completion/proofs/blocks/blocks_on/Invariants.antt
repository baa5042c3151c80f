-- `blocks_on` answers `blocks_on` for each chain. The loop's invariant: the blocks of the first n chains stand in the array. Assumes nothing.
use Prim.Native.Nat.{suc, ◌≤◌}
use Rattle.completion.specs.Delays.{no_block, block_named}
use Rattle.jobs.specs.Limits.{max_chains}
use Rattle.laws.specs.Words.{number_at, tabulate, padded}
use Rattle.completion.proofs.Counting.{lent_by}
use Rattle.theory.proofs.Weights.{spanned}
use Rattle.theory.specs.Delays.{blocks_on}
use mathlib.Core.Path.{◌≡◌}
use Rattle.completion.proofs.blocks.blocks_on.Given as goal

abbrev pub invariant-loop-n : goal.invariant-loop-n
invariant-loop-n l =
    (l.n ≤ max_chains) × (l.each ≡ padded max_chains no_block (tabulate 0 l.n (λ c. block_named (number_at l.numbers) (blocks_on (lent_by l.table) l.target.chain l.target.urgency (spanned l.table.columns l.bound l.target.from l.target.to) (suc c)))))
