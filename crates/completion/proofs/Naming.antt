-- What bounds come from, by the numbers of jobs: of a table, and of an accepted set, whose columns are lent. Assumes nothing.
use Prim.Native.Nat.{ℕ, ◌-◌, ◌≤◌, ◌<◌}
use mathlib.Core.Path.{◌≡◌, refl, sym, ap, ◌∙◌}
use mathlib.Core.Bool.{Bool}
use mathlib.Core.List.{List}
use native.Mathlib.Omega.{arith}
use lib.ListN.{get_or}
use borrow.Author.Tests.{lt-ltb, le-ltb}
use Rattle.laws.specs.Words.{number_at, tabulate, padded}
use Rattle.laws.proofs.Tests.{by_order}
use Rattle.laws.proofs.Tabulate.{tabulate_ext}
use Rattle.laws.proofs.Lists.{get_d_padded}
use Rattle.laws.proofs.Filling.{filled_at}
use Rattle.jobs.specs.declared.job.Job.{Job}
use Rattle.jobs.specs.declared.set.JobSet.{JobSet}
use Rattle.jobs.specs.Limits.{max_jobs, max_chains}
use Rattle.jobs.specs.Jobs.{jobs_of}
use Rattle.jobs.proofs.Sets.{length_jobs}
use Rattle.theory.specs.Table.{Table, table_of}
use Rattle.theory.specs.Bounds.{cja_with, overlap, round, itr}
use Rattle.theory.specs.Delays.{Block as TheoryBlock, no_block as theory_no_block, Delay as TheoryDelay, delay_at, ert_delay, cja_delay, itr_delay}
use Rattle.theory.proofs.Rules.{always, at_cja}
use Rattle.theory.proofs.Settling.{itr_fixed}
use Rattle.theory.proofs.Columns.{column, Fit}
use Rattle.theory.proofs.Pairs.{round_at}
use Rattle.theory.proofs.Late.{late, late-overlap}
use Rattle.theory.proofs.Agreement.{Agree}
use Rattle.theory.proofs.Unread.{bare}
use Rattle.theory.proofs.TakenBlock.{blocks_within}
use Rattle.theory.proofs.Delays.{pair_within}
use Rattle.theory.proofs.SameDelays.{SameFigures, agree_figures, ert_delay-same, delay_same}
use Rattle.completion.specs.declared.answer.Delay.{Delay}
use Rattle.completion.specs.Delays.{no_block, block_named, delay_named, number_in, delays_named}
use Rattle.completion.proofs.Rounding.{round-padded}

-- ---- one block
module _ (number : ℕ → ℕ) where
  pub named_none : block_named number theory_no_block ≡ no_block
  unfolding block_named
  named_none = refl

  pub named_some : (first end : ℕ) → first < end → block_named number (record { first = first; end = end }) ≡ record { first = number first; last = number (end - 1) }
  unfolding block_named
  named_some first end l = rw (lt-ltb first end l)

-- ---- numbers that agree on a table's places name the same
pub record Within (count : ℕ) (d : TheoryDelay) : Type 0 where
  pub from : d.from < count
  pub blocks : (c : ℕ) → (d.block c).end ≤ count

module _ (f g : ℕ → ℕ) (count : ℕ) (h : (i : ℕ) → i < count → f i ≡ g i) where
  block_same : (b : TheoryBlock) → b.end ≤ count → block_named f b ≡ block_named g b
  unfolding block_named
  block_same b l =
      by_order b.end b.first
      (λ none. rw (le-ltb b.first b.end none))
      (λ some. rw (lt-ltb b.first b.end some, h b.first (omega arith), h (b.end - 1) (omega arith)))

  named_same : (d : TheoryDelay) → Within count d → delay_named f d ≡ delay_named g d
  unfolding delay_named
  named_same d within =
      let blocks : tabulate 1 max_chains (λ c. block_named f (d.block c)) ≡ tabulate 1 max_chains (λ c. block_named g (d.block c))
      = tabulate_ext 1 max_chains _ _ (λ c a b. block_same (d.block c) (within.blocks c)) in
      λ x. record { from = h d.from within.from x; blocks = blocks x }

-- ---- of a table
module _ (t : Table) (j : ℕ) (l : j < t.count) where
  pub ert-within : Within t.count (ert_delay t j)
  unfolding ert_delay
  ert-within = record { from = l; blocks = blocks_within t (t.chain j) (t.urgency j) t.most }

  pub pair_delay_within : (keep : ℕ → ℕ → ℕ → Bool) → Within t.count (delay_at t keep j)
  unfolding delay_at
  pair_delay_within keep = record { from = omega (arith, pair_within t keep j); blocks = blocks_within t _ _ _ }

-- the bound of a job after a round
pub best_at : (t : Table) (bound best : List ℕ) → best ≡ padded max_jobs 0 (round t bound) → (j : ℕ) → j < t.count → get_or best j 0 ≡ round_at t bound j
unfolding round
best_at t bound best e j l = ap (λ (b : List ℕ). get_or b j 0) e ∙ get_d_padded max_jobs 0 (cja_with t (overlap t bound)) j ∙ at_cja t (overlap t bound) j l

-- a round leaves ITR's bounds as they are
pub settled_best : (t : Table) (bound : List ℕ) → bound ≡ padded max_jobs 0 (itr t).bounds → bound ≡ padded max_jobs 0 (round t bound)
settled_best t bound e = rw e (ap (padded max_jobs 0) (sym (round-padded t (itr t).bounds ∙ itr_fixed t)))

-- ---- of an accepted set
module _ (set : JobSet) (s : Table) (agree : Agree s (bare (table_of (jobs_of set)))) (numbers : List ℕ) (are : numbers ≡ column set.count (number_in (jobs_of set))) where
  abbrev js : List Job
  js = jobs_of set

  abbrev listed : (ℕ → TheoryDelay) → List Delay
  listed delay = tabulate 0 s.count (λ j. delay_named (number_at numbers) (delay j))

  counts : s.count ≡ set.count
  counts = agree.count ∙ length_jobs set

  figures : SameFigures s (table_of js)
  figures = agree_figures agree

  number_at_lem : (i : ℕ) → i < s.count → number_at numbers i ≡ number_in js i
  number_at_lem i l = ap (λ (l : List ℕ). get_or l i 0) are ∙ filled_at max_jobs 0 (number_in js) set.count i (omega (arith, counts))

  all_same : (d e : ℕ → TheoryDelay) → ((j : ℕ) → j < s.count → Within s.count (d j)) → ((j : ℕ) → j < s.count → d j ≡ e j) → listed d ≡ delays_named js e
  unfolding delays_named
  all_same d e within same =
      tabulate_ext 0 s.count _ _ (λ j a l.
      let jl : j < s.count = omega arith in
      named_same (number_at numbers) (number_in js) s.count number_at_lem (d j) (within j jl) ∙ ap (delay_named (number_in js)) (same j jl))
      ∙ ap (λ (n : ℕ). tabulate 0 n (λ j. delay_named (number_in js) (e j))) agree.count

  pub all_ert : listed (ert_delay s) ≡ delays_named js (ert_delay (table_of js))
  all_ert = all_same (ert_delay s) (ert_delay (table_of js)) (λ j l. ert-within s j l) (λ j l. ert_delay-same figures j l)

  pub all_cja : Fit s → listed (delay_at s (overlap s late)) ≡ delays_named js (cja_delay (table_of js))
  unfolding cja_delay
  all_cja fit =
      all_same (delay_at s (overlap s late)) _ (λ j l. pair_delay_within s j l (overlap s late))
      (λ j l. delay_same figures (overlap s late) always j l (λ k u kj ul. late-overlap s fit k j u (omega arith) l ul))

  overlap-same : (bounds : List ℕ) → bounds ≡ padded max_jobs 0 (itr (table_of js)).bounds → (j k u : ℕ) → k < s.count → u < s.count
      → overlap s bounds k j u ≡ overlap (table_of js) (itr (table_of js)).bounds k j u
  unfolding overlap
  overlap-same bounds e j k u kl ul =
      rw (e, get_d_padded max_jobs 0 (itr (table_of js)).bounds u, get_d_padded max_jobs 0 (itr (table_of js)).bounds j, figures.earliest k kl, figures.earliest u ul)

  pub all_itr : (bounds : List ℕ) → bounds ≡ padded max_jobs 0 (itr (table_of js)).bounds → listed (delay_at s (overlap s bounds)) ≡ delays_named js (itr_delay (table_of js))
  unfolding itr_delay
  all_itr bounds e =
      all_same (delay_at s (overlap s bounds)) _ (λ j l. pair_delay_within s j l (overlap s bounds))
      (λ j l. delay_same figures (overlap s bounds) (overlap (table_of js) (itr (table_of js)).bounds) j l (λ k u kj ul. overlap-same bounds e j k u (omega arith) ul))
