-- A buffer of 24 bytes for each job and chain that a set can have has room for the text. A chain number has at most 2 digits and a job number 3, so that
-- a row takes at most 23 bytes, and the header takes 33. Assumes nothing.
--   Short        a number of at most 3 digits
--   ShortDelay   a delay of such numbers
use Prim.Native.Nat.{ℕ, zero, suc, ◌+◌, ◌*◌, ◌-◌, ◌≤◌, ◌<◌}
use mathlib.Core.List.{List, []}
use mathlib.Core.Path.{sym, ap, subst}
use native.Mathlib.Omega.{arith}
use native.Mathlib.Nat.{mul-suc}
use native.Mathlib.Numerals.{add-one}
use lib.Dec.{ltb}
use lib.ListN.{length, get_or, length-append}
use Rattle.laws.specs.Words.{tabulate}
use Rattle.laws.proofs.Tests.{by_test, by_equal}
use Rattle.laws.proofs.Lists.{get_d_padded}
use Rattle.decimal.specs.Digits.{decimal}
use Rattle.decimal.proofs.Values.{decimal-within}
use Rattle.jobs.specs.declared.job.Job.{Job}
use Rattle.jobs.specs.Limits.{max_chains}
use Rattle.jobs.specs.Jobs.{job_at, chains_of}
use Rattle.jobs.proofs.Accepted.{Accepted, accepted}
use Rattle.jobs.proofs.Chains.{chains-within}
use Rattle.theory.specs.Table.{table_of}
use Rattle.theory.specs.Delays.{Block as TheoryBlock, Delay as TheoryDelay, itr_delay}
use Rattle.completion.specs.declared.answer.Block.{Block}
use Rattle.completion.specs.declared.answer.Delay.{Delay}
use Rattle.completion.specs.Delays.{no_block, no_delay, block_named, delay_named, number_in, delays_named}
use Rattle.texts.specs.Lines.{lines_text}
use Rattle.texts.proofs.Numbers.{Numbered, numbered_at}
use Rattle.blocks.specs.Texts.{blocks_header, job_rows, blocks_rows, blocks_text, BlocksFit}
use Rattle.blocks.proofs.RowTexts.{three_length, row-length, chain_text, job-made, rows_made, own_text, other_text}

-- ---- the numbers of a delay
abbrev Short : ℕ → Type 0
Short n = length (decimal n) ≤ 3

record ShortBlock (b : Block) : Type 0 where
  pub first : Short b.first
  pub last : Short b.last

record ShortDelay (d : Delay) : Type 0 where
  pub from : Short d.from
  pub block : (i : ℕ) → ShortBlock (get_or d.blocks i no_block)

-- what holds of each element and of the default holds of a read
read_holds : {A : Type 0} (P : A → Type 0) (f : ℕ → A) (d : A) → ((k : ℕ) → P (f k)) → P d → (i n k : ℕ) → P (get_or (tabulate i n f) k d)
unfolding tabulate
read_holds P f d each none i zero k = none
read_holds P f d each none i (suc n) zero = each i
read_holds P f d each none i (suc n) (suc k) = read_holds P f d each none (suc i) n k

none_short : ShortBlock no_block
none_short = record { first = decimal-within 2 0 (omega arith); last = decimal-within 2 0 (omega arith) }

no_delay_short : ShortDelay no_delay
no_delay_short =
    record { from = decimal-within 2 0 (omega arith); block = λ i. subst ShortBlock (sym (get_d_padded max_chains no_block [] i)) none_short }

module _ (number : ℕ → ℕ) (short : (i : ℕ) → Short (number i)) where
  block_short : (b : TheoryBlock) → ShortBlock (block_named number b)
  unfolding block_named
  block_short b =
      by_test (ltb b.first b.end)
      (λ t. rw t (record { first = short b.first; last = short (b.end - 1) }))
      (λ t. rw t none_short)

  delay_short : (d : TheoryDelay) → ShortDelay (delay_named number d)
  unfolding delay_named
  delay_short d =
      record {
        from = short d.from;
        block = read_holds ShortBlock (λ c. block_named number (d.block c)) no_block (λ c. block_short (d.block c)) none_short 1 max_chains;
      }

-- ---- the rows of a job
module _ (j : Job) (d : Delay) (numbers : Numbered j) (short : ShortDelay d) where
  chain_within : (n : ℕ) → n < max_chains → length (chain_text j d n) ≤ 23
  chain_within n l =
      let block = get_or d.blocks n no_block in
      by_equal (n + 1) j.chain
      (λ e. omega (arith, ap length (own_text j d n e)))
      (λ ne.
      omega (
        arith,
        ap length (other_text j d n ne),
        row-length j.chain j.job d.from (n + 1) block.first block.last,
        three_length j.chain j.job d.from,
        three_length (n + 1) block.first block.last,
        numbers.chain,
        numbers.job,
        short.from,
        decimal-within 1 (n + 1) (omega arith),
        (short.block n).first,
        (short.block n).last,
      ))

  job-within : (n : ℕ) → n ≤ max_chains → length (lines_text (job_rows n j d)) ≤ 23 * n
  job-within zero l = omega (arith, ap length (job-made j d 0).none)
  job-within (suc n) l =
      omega (
        arith,
        ap length (rw (add-one n) at ((job-made j d (suc n)).next n (omega arith))),
        length-append (lines_text (job_rows n j d)) (chain_text j d n),
        job-within n (omega arith),
        chain_within n l,
        mul-suc 23 n,
      )

-- ---- the rows of all jobs
module _ (js : List Job) (ok : Accepted js) where
  abbrev delays : List Delay
  delays = delays_named js (itr_delay (table_of js))

  delays_short : (n : ℕ) → ShortDelay (get_or delays n no_delay)
  unfolding delays_named
  delays_short =
      read_holds ShortDelay (λ j. delay_named (number_in js) (itr_delay (table_of js) j)) no_delay
      (λ j. delay_short (number_in js) (λ i. (numbered_at js ok i).job) (itr_delay (table_of js) j)) no_delay_short 0 (length js)

  rows-within : (n : ℕ) → length (lines_text (blocks_rows js delays n)) ≤ 23 * max_chains * n
  rows-within zero = omega (arith, ap length (rows_made js delays 0).none)
  rows-within (suc n) =
      let rows = lines_text (job_rows (chains_of js) (job_at js n) (get_or delays n no_delay)) in
      omega (
        arith,
        ap length (rw (add-one n) at ((rows_made js delays (suc n)).next n (omega arith))),
        length-append (lines_text (blocks_rows js delays n)) rows,
        rows-within n,
        job-within (job_at js n) (get_or delays n no_delay) (numbered_at js ok n) (delays_short n) (chains_of js) (chains-within js ok),
        chains-within js ok,
        mul-suc (23 * max_chains) n,
      )

pub blocks_fit : BlocksFit
unfolding blocks_text
blocks_fit js passed =
    let ok = accepted js passed in
    omega (arith, length-append blocks_header (lines_text (blocks_rows js (delays js ok) (length js))), rows-within js ok (length js), ok.few)
