-- `delay_at` answers `delay_at`. Assumes nothing.
use Prim.Native.Nat.{ℕ, ◌≤◌}
use Rattle.completion.proofs.Counting.{lent_by}
use Rattle.completion.specs.Delays.{block_named, delay_named}
use Rattle.completion.specs.declared.answer.Block.{Block}
use Rattle.completion.specs.declared.answer.Delay.{Delay}
use Rattle.completion.specs.declared.table.Table.{Table}
use Rattle.jobs.specs.Limits.{max_chains}
use Rattle.laws.specs.Words.{number_at, tabulate}
use Rattle.theory.proofs.Delays.{pair_within}
use Rattle.theory.proofs.Weights.{weight_of, spanned}
use Rattle.theory.specs.Bounds.{lowest, overlap}
use Rattle.theory.specs.Delays.{blocks_on, first_pair, delay_at}
use Rattle.theory.specs.Table.{Table as TheoryTable}
use borrow.Author.Rules.{rules}
use lib.ListN.{get_or}
use mathlib.Core.List.{List}
use mathlib.Core.Path.{◌≡◌, ap, ◌∙◌}
use native.Mathlib.Omega.{arith}
use Rattle.completion.proofs.delay.delay_at.Goals as goal

-- the parts of the answer
module _ (t : Table) (bound numbers : List ℕ) (j k : ℕ) where
  abbrev lent : TheoryTable
  lent = lent_by t

  abbrev blocks_from : ℕ → List Block
  blocks_from x =
      tabulate 1 max_chains (λ c. block_named (number_at numbers) (blocks_on lent (lent.chain j) (lowest lent x j) (spanned t.columns bound (lent.earliest x) (get_or bound j 0)) c))

  -- the first job of the pair does not come after j
  within : k ≡ first_pair lent (overlap lent bound) j → k ≤ j
  within e = omega (arith, e, pair_within lent (overlap lent bound) j)

  made : k ≡ first_pair lent (overlap lent bound) j → (blocks : List Block) → blocks ≡ blocks_from k
      → ◌≡◌ {A = Delay} (record { from = number_at numbers k; blocks = blocks }) (delay_named (number_at numbers) (delay_at lent (overlap lent bound) j))
  unfolding delay_named delay_at overlap weight_of
  made e blocks q = rw q (ap (λ (x : ℕ). record { from = number_at numbers x; blocks = blocks_from x }) e)

pub lowest_from-requires : goal.lowest_from-requires
lowest_from-requires c = let a = c.args in (within a.table.now a.bound.now a.numbers.now a.j _ c.first_pair-k.ensures, c.requires.0)

pub earliest-requires : goal.earliest-requires
earliest-requires c = let a = c.args in search (rules, within a.table.now a.bound.now a.numbers.now a.j _ c.first_pair-k.ensures, c.requires.0, a.table.now.fit.few)

pub offset_bounds-numbers-k : goal.offset_bounds-numbers-k
offset_bounds-numbers-k c = let a = c.args in search (rules, within a.table.now a.bound.now a.numbers.now a.j _ c.first_pair-k.ensures, c.requires.0, a.table.now.fit.few)

pub bounds-numbers-k : goal.bounds-numbers-k
bounds-numbers-k c = let a = c.args in search (rules, within a.table.now a.bound.now a.numbers.now a.j _ c.first_pair-k.ensures, c.requires.0, a.table.now.fit.few)

pub returns : goal.returns
returns c =
    let a = c.args in
    made a.table.now a.bound.now a.numbers.now a.j c.first_pair-k.result c.first_pair-k.ensures c.blocks_on.result
    (c.blocks_on.ensures ∙ rw (c.chain.ensures, c.lowest_from.ensures, c.earliest.ensures))
