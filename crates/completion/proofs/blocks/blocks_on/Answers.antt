-- `blocks_on` answers `blocks_on` for each chain. The loop's invariant: the blocks of the first n chains stand in the array. Assumes nothing.
use Prim.Native.Nat.{ℕ, suc}
use Rattle.completion.specs.Delays.{no_block, block_named}
use Rattle.completion.specs.declared.answer.Block.{Block}
use Rattle.jobs.specs.Limits.{max_chains}
use Rattle.laws.proofs.Filling.{filled_none, filled_next, filled_whole}
use Rattle.laws.proofs.Tabulate.{tabulate_shift}
use Rattle.std.specs.Prelude.{replicate}
use Rattle.laws.specs.Words.{number_at, tabulate, padded}
use Rattle.theory.proofs.Columns.{lent}
use Rattle.theory.proofs.Weights.{spanned}
use Rattle.theory.specs.Delays.{blocks_on}
use mathlib.Core.Path.{◌≡◌, ap, ◌∙◌}
use native.Mathlib.Numerals.{add-one}
use native.Mathlib.Omega.{arith}
use Rattle.completion.proofs.blocks.blocks_on.Goals.{Start}
use Rattle.completion.proofs.blocks.blocks_on.Goals as goal

-- the block of chain c
abbrev block : Start → ℕ → Block
block s c =
    block_named (number_at s.args.numbers.now)
    (blocks_on (lent s.args.table.now.count s.args.table.now.columns) s.args.target.chain s.args.target.urgency (spanned s.args.table.now.columns s.args.bound.now s.args.target.from s.args.target.to) c)

abbrev next : Start → ℕ → Block
next s c = block s (suc c)

pub loop-n-init : goal.loop-n-init
loop-n-init c = (omega arith, ap (replicate max_chains) c.none-none.ensures ∙ filled_none max_chains no_block (next c.before))

pub loop-n-preserved : goal.loop-n-preserved
loop-n-preserved c =
    let s = c.before.before.before.before in
    let l = c.loop-n in
    (omega arith, filled_next max_chains no_block (next s) l.n l.each _ (omega arith) l.invariant.1 (c.chain_block.ensures ∙ rw add-one))

pub returns : goal.returns
returns c =
    let s = c.before.before.before in
    let l = c.loop-n in
    let all : l.n ≡ max_chains = omega arith in
    l.invariant.1
    ∙ ap (λ (n : ℕ). padded max_chains no_block (tabulate 0 n (next s))) all
    ∙ filled_whole max_chains no_block (next s)
    ∙ tabulate_shift 0 max_chains (block s)
