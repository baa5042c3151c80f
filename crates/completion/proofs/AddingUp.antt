-- The jobs that a block names are those of the block, and so the sums over them are the block's. Assumes that the jobs are accepted.
use Prim.Native.Nat.{ℕ, zero, suc, ◌+◌, ◌-◌, ◌≤◌, ◌<◌}
use mathlib.Core.Path.{◌≡◌, sym, ap, subst, ◌∙◌}
use mathlib.Core.Logic.{◌≢◌, inl, inr}
use mathlib.Core.Bool.{Bool, true, false, cond, ◌&&◌}
use mathlib.Core.List.{List}
use native.Mathlib.Omega.{arith}
use lib.Dec.{leb, eqb}
use lib.ListN.{length, get_or}
use borrow.Author.Tests.{lt-ltb, le-ltb, le-leb, eq-eqb, eqb-true, leb-true}
use Rattle.laws.specs.Words.{sum_below, greatest, tabulate}
use Rattle.laws.proofs.Tests.{by_test, by_order, by_equal, and_left, and_right, never_true}
use Rattle.laws.proofs.Sums.{sum_ext, sum_zero, sum_split, sum_window}
use Rattle.laws.proofs.Greatest.{greatest_above, attained}
use Rattle.laws.proofs.Tabulate.{get_d_tabulate}
use Rattle.jobs.specs.declared.job.Job.{Job}
use Rattle.jobs.specs.Limits.{max_chains}
use Rattle.jobs.specs.Jobs.{job_at}
use Rattle.jobs.proofs.Accepted.{Accepted}
use Rattle.jobs.proofs.Places.{numbers_rise}
use Rattle.theory.specs.Table.{Table, table_of}
use Rattle.theory.specs.Delays.{Block as TheoryBlock, no_block as theory_no_block, IsBlock, block_sum, delay_sum, Names}
use Rattle.theory.proofs.TakenBlock.{no_block_sum}
use Rattle.completion.specs.declared.answer.Block.{Block}
use Rattle.completion.specs.Delays.{no_block, block_named, number_in}
use Rattle.completion.specs.Claims.{named_sum, named_sums}

module _ (js : List Job) (ok : Accepted js) (w : ℕ → ℕ) where
  abbrev t : Table
  t = table_of js

  -- whether a job is one of those that a block names
  abbrev is_named : ℕ → Block → ℕ → Bool
  is_named c block u = eqb (job_at js u).chain c && leb block.first (job_at js u).job && leb (job_at js u).job block.last

  abbrev counted : ℕ → Block → ℕ → ℕ
  counted c block u = cond (is_named c block u) (w u) 0

  is_named_lem : (c : ℕ) (block : Block) (u : ℕ) → is_named c block u ≡ true
      → ((job_at js u).chain ≡ c) × (block.first ≤ (job_at js u).job) × ((job_at js u).job ≤ block.last)
  is_named_lem c block u e =
      let chain : Bool = eqb (job_at js u).chain c in
      let low : Bool = leb block.first (job_at js u).job in
      let high : Bool = leb (job_at js u).job block.last in
      let both = and_left (chain && low) high e in
      (eqb-true (job_at js u).chain c (and_left chain low both), leb-true block.first (job_at js u).job (and_right chain low both), leb-true (job_at js u).job block.last (and_right (chain && low) high e))

  module _ (c target : ℕ) (b : TheoryBlock) (is : IsBlock t c target b) where
    abbrev block : Block
    block = record { first = number_in js b.first; last = number_in js (b.end - 1) }

    in_chain : (u : ℕ) → b.first ≤ u → u < b.end → (job_at js u).chain ≡ c
    in_chain u a l = is.chain u a l

    -- numbers of one chain are in the order of places
    up : (u v : ℕ) → u ≤ v → v < length js → (job_at js u).chain ≡ (job_at js v).chain → (job_at js u).job ≤ (job_at js v).job
    up u v l m e =
        by_equal u v
        (λ q. rw q (omega arith))
        (λ ne. omega (arith, numbers_rise js ok u v (omega arith) m e))

    within : (u : ℕ) → b.first ≤ u → u < b.end → counted c block u ≡ w u
    within u a l =
        let last : b.end - 1 < length js = omega (arith, is.some, is.inside) in
        let cu = in_chain u a l in
        let low : (job_at js b.first).job ≤ (job_at js u).job = up b.first u a (omega (arith, is.inside)) (in_chain b.first (omega arith) is.some ∙ sym cu) in
        let high : (job_at js u).job ≤ (job_at js (b.end - 1)).job = up u (b.end - 1) (omega arith) last (cu ∙ sym (in_chain (b.end - 1) (omega arith) (omega (arith, is.some)))) in
        rw (eq-eqb (job_at js u).chain c cu, le-leb (job_at js b.first).job (job_at js u).job low, le-leb (job_at js u).job (job_at js (b.end - 1)).job high)

    not_named : (u : ℕ) → is_named c block u ≡ false → counted c block u ≡ 0
    not_named u e = rw e

    before : (u : ℕ) → u < b.first → counted c block u ≡ 0
    before u l =
        not_named u
        (never_true (is_named c block u) (λ e.
        let named = is_named_lem c block u e in
        omega (arith, named.1, numbers_rise js ok u b.first l (omega (arith, is.some, is.inside)) (named.0 ∙ sym (in_chain b.first (omega arith) is.some)))))

    behind : (u : ℕ) → b.end ≤ u → u < length js → counted c block u ≡ 0
    behind u l m =
        not_named u
        (never_true (is_named c block u) (λ e.
        let named = is_named_lem c block u e in
        let last : b.end - 1 < u = omega (arith, is.some) in
        omega (arith, named.2, numbers_rise js ok (b.end - 1) u last m (in_chain (b.end - 1) (omega (arith, is.some)) (omega (arith, is.some)) ∙ sym named.0))))

    some_sum : named_sum js w c block ≡ block_sum w b
    unfolding named_sum block_sum
    some_sum =
        let size : ℕ = b.end - b.first in
        let rest : ℕ = length js - b.end in
        let whole : b.first + (size + rest) ≡ length js = omega (arith, is.some, is.inside) in
        subst (λ (n : ℕ). sum_below n (counted c block) ≡ sum_below size (λ i. w (b.first + i))) whole
        (sum_window (counted c block) b.first size rest before (λ i l. behind (b.first + (size + i)) (omega (arith, is.some)) (omega (arith, is.some, is.inside)))
        ∙ sum_ext size _ _ (λ i l. within (b.first + i) (omega arith) (omega arith)))

  -- a job has a number, so that 0 and 0 names none
  numbered : (u : ℕ) → u < length js → 1 ≤ (job_at js u).job
  numbered zero l = omega (arith, ok.first.1)
  numbered (suc u) l = elim (ok.order u l) [ inl e ↦ omega (arith, e.1) | inr e ↦ omega (arith, e.1) ]

  chained : (u : ℕ) → u < length js → 1 ≤ (job_at js u).chain
  chained zero l = omega (arith, ok.first.0)
  chained (suc u) l = elim (ok.order u l) [ inl e ↦ omega (arith, e.0, chained u (omega arith)) | inr e ↦ omega (arith, e.0) ]

  none_sum : (c : ℕ) → named_sum js w c no_block ≡ 0
  unfolding named_sum
  none_sum c =
      sum_zero (length js) _ (λ u l.
      by_test (is_named c no_block u)
      (λ e. absurd (omega (arith, numbered u l, (is_named_lem c no_block u e).2)))
      (λ e. rw e))

  empty_sum : (b : TheoryBlock) → b.end ≤ b.first → block_sum w b ≡ 0
  unfolding block_sum
  empty_sum b empty = sum_zero (b.end - b.first) (λ i. w (b.first + i)) (λ i l. absurd (omega arith))

  -- the sum over the jobs that are named is the block's
  module _ {own target : ℕ} {block : ℕ → TheoryBlock} (names : Names t own target w block) where
    block_sum_lem : (c : ℕ) → named_sum js w c (block_named (number_in js) (block c)) ≡ block_sum w (block c)
    unfolding block_named
    block_sum_lem c =
        let b = block c in
        by_order b.end b.first
        (λ empty. rw (le-ltb b.first b.end empty) (none_sum c ∙ sym (empty_sum b empty)))
        (λ some.
        let filled : b ≢ theory_no_block = λ e. omega (arith, some, ap (λ (x : TheoryBlock). x.end) e) in
        let other : c ≢ own = λ e. filled (subst (λ (x : ℕ). block x ≡ theory_no_block) (sym e) names.own_none) in
        rw (lt-ltb b.first b.end some) (some_sum c target b (names.taken c other filled).is_block))

    -- a chain of which there is no job adds nothing
    absent : (c : ℕ) → ((u : ℕ) → u < length js → (job_at js u).chain ≢ c) → block_sum w (block c) ≡ 0
    absent c h =
        let none : block c ≡ theory_no_block
        = by_equal c own
        (λ e. rw e names.own_none)
        (λ ne. (names.none c ne).1 (λ u l e. absurd (h u l e))) in
        ap (block_sum w) none ∙ no_block_sum w

    pub blocks_sum : named_sums js w (tabulate 1 max_chains (λ c. block_named (number_in js) (block c))) ≡ delay_sum t w block
    unfolding named_sums
    blocks_sum =
        let sums : ℕ → ℕ = λ c. block_sum w (block c) in
        let named : ℕ → Block = λ c. block_named (number_in js) (block c) in
        let last : ℕ = greatest (length js) t.chain in
        let few : last ≤ max_chains = (let top = attained (length js) t.chain ok.some in omega (arith, top.greatest_is, (ok.limits top.at top.below).chains)) in
        let rest : ℕ = max_chains - last in
        let each : sum_below max_chains (λ n. named_sum js w (suc n) (get_or (tabulate 1 max_chains named) n no_block)) ≡ sum_below max_chains (λ n. sums (1 + n))
        = sum_ext max_chains _ _ (λ n l.
        let place : 1 + n ≡ suc n = omega arith in
        ap (named_sum js w (suc n)) (get_d_tabulate 1 max_chains named no_block n l ∙ ap named place) ∙ block_sum_lem (suc n) ∙ ap sums (sym place)) in
        let zeroth : sum_below 1 sums ≡ 0
        = sum_zero 1 sums (λ c l. absent c (λ u ul e. omega (arith, l, e, chained u ul))) in
        let beyond : sum_below rest (λ i. sums (suc last + i)) ≡ 0
        = sum_zero rest (λ i. sums (suc last + i)) (λ i l. absent (suc last + i) (λ u ul e. omega (arith, e, greatest_above (length js) t.chain u ul))) in
        let all : suc last + rest ≡ 1 + max_chains = omega arith in
        omega (arith, each, zeroth, beyond, sum_split sums 1 max_chains, sum_split sums (suc last) rest, ap (λ (n : ℕ). sum_below n sums) all)
