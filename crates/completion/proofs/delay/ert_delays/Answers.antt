-- `ert_delays` names what each job's ERT bound comes from. The loop's invariant: the first j jobs' delays stand in the array. Assumes nothing.
use Prim.Native.Nat.{ℕ}
use Rattle.completion.proofs.Counting.{lent_by}
use Rattle.completion.specs.Delays.{block_named, delay_named, no_delay}
use Rattle.completion.specs.declared.answer.Block.{Block}
use Rattle.completion.specs.declared.answer.Delay.{Delay}
use Rattle.completion.specs.declared.table.Table.{Table}
use Rattle.jobs.specs.Limits.{max_jobs, max_chains}
use Rattle.laws.proofs.Filling.{filled_none, filled_next}
use Rattle.std.specs.Prelude.{replicate}
use Rattle.laws.specs.Words.{number_at, tabulate}
use Rattle.theory.proofs.Late.{late, weight-late}
use Rattle.theory.proofs.SameDelays.{figures_same, blocks_same}
use Rattle.theory.proofs.Weights.{spanned}
use Rattle.theory.specs.Bounds.{bound_limit}
use Rattle.theory.specs.Delays.{Block as TheoryBlock, blocks_on, ert_delay}
use Rattle.theory.specs.Table.{Table as TheoryTable}
use mathlib.Core.List.{List}
use mathlib.Core.Path.{◌≡◌, ap, ◌∙◌}
use native.Mathlib.Omega.{arith}
use Rattle.completion.proofs.delay.ert_delays.Goals as goal

-- what a job's bound comes from
abbrev delay : Table → List ℕ → ℕ → Delay
delay t numbers j = delay_named (number_at numbers) (ert_delay (lent_by t) j)

-- the parts of it, where each job counts its most time
module _ (t : Table) (numbers : List ℕ) (j : ℕ) where
  abbrev lent : TheoryTable
  lent = lent_by t

  abbrev named : (ℕ → TheoryBlock) → List Block
  named block = tabulate 1 max_chains (λ c. block_named (number_at numbers) (block c))

  made : (blocks : List Block) → blocks ≡ named (blocks_on lent (lent.chain j) (lent.urgency j) (spanned t.columns late 0 bound_limit))
      → ◌≡◌ {A = Delay} (record { from = number_at numbers j; blocks = blocks }) (delay t numbers j)
  unfolding delay_named ert_delay
  made blocks e =
      ap (λ (b : List Block). record { from = number_at numbers j; blocks = b })
      (e ∙ ap named (blocks_same (figures_same lent) (lent.chain j) (lent.urgency j) (spanned t.columns late 0 bound_limit) lent.most (λ u l. weight-late t.count t.columns t.fit u l)))

pub loop-j-init : goal.loop-j-init
loop-j-init c = (omega arith, ap (replicate max_jobs) c.none-none.ensures ∙ filled_none max_jobs no_delay (delay c.args.table.now c.args.numbers.now))

pub loop-j-preserved : goal.loop-j-preserved
loop-j-preserved c =
    let a = c.args in
    let l = c.loop-j in (
      omega arith,
      filled_next max_jobs no_delay (delay a.table.now a.numbers.now) l.j l.delays _ (omega (arith, a.table.now.fit.few)) l.invariant.1
          (made a.table.now a.numbers.now l.j c.blocks_on-blocks.result (c.blocks_on-blocks.ensures ∙ rw (c.chain.ensures, c.urgency.ensures))),
    )
