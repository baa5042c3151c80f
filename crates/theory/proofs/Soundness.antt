-- The bounds hold: in every run each job is complete at its bound. Were it late, its window would hold more ticks than its chain and one block of
-- each other chain can fill. A job of another chain that runs in the window overlaps it, since with a lower bound it would be complete: the induction
-- is on the bound. Assumes a well-formed table.
use Prim.Native.Nat.{ℕ, zero, suc, ◌+◌, ◌-◌, ◌≤◌, ◌<◌}
use mathlib.Core.Path.{◌≡◌, refl, sym, ap, subst, ◌∙◌}
use mathlib.Core.Logic.{◌≢◌}
use mathlib.Core.Bool.{true}
use mathlib.Core.List.{List}
use native.Mathlib.Omega.{arith}
use lib.ListN.{length}
use Rattle.laws.specs.Words.{sum_below, number_at}
use Rattle.laws.proofs.Tests.{by_order, by_equal}
use Rattle.theory.specs.Table.{Table}
use Rattle.theory.specs.Bounds.{largest_block, interference, demand, lowest, pair_bound, cja, ert, overlap, round, itr}
use Rattle.theory.specs.Runs.{Entry, work}
use Rattle.theory.specs.Claims.{AtMost, Holds}
use Rattle.theory.proofs.Legal.{Complete, PredecessorComplete, Run, complete_eq, eq_complete, run_from}
use Rattle.theory.proofs.WellFormed.{WellFormed, chain_between}
use Rattle.theory.proofs.Rules.{counted, pair_below, at_cja}
use Rattle.theory.proofs.Chains.{chain_sum, chain_most, own_and_others, own_sum}
use Rattle.theory.proofs.Blocks.{block-holds}
use Rattle.theory.proofs.Overlaps.{overlap_by}
use Rattle.theory.proofs.Monotone.{cja_le_ert}
use Rattle.theory.proofs.Settling.{itr_fixed, itr_le_cja}
use Rattle.theory.proofs.Work.{work_mono, time_positive, work_most, complete_stays, complete-before, complete_below, none_after}
use Rattle.theory.proofs.Windows.{work_in, Window, Ran, critical, late_before, ticks, ran_in}

module _ {t : Table} (well : WellFormed t) {release : ℕ → ℕ} {times : List ℕ} {run : List Entry} (is : Run t release times run) where
  module _ {j bound : ℕ} (window : Window t release times run j bound) where
    -- the critical job, its release, and the lowest urgency from it to j
    abbrev head : ℕ
    head = window.from.job

    abbrev start : ℕ
    start = release head

    abbrev target : ℕ
    target = lowest t head j

    abbrev RanIn : ℕ → Type 0
    RanIn = Ran t release times run target start bound

    work_in_most : (u : ℕ) → u < t.count → work_in run start bound u ≤ t.most u
    unfolding work_in
    work_in_most u ul = omega (arith, work_most well is u bound, is.in_range.high u ul)

    -- ---- of j's own chain only the jobs from the critical one to j run in the window, and j does not finish
    complete-ahead : (k u : ℕ) → u < k → k ≤ j → t.chain u ≡ t.chain k → PredecessorComplete t times run k (release k) → (n : ℕ) → release k ≤ n
        → Complete times run u n
    complete-ahead zero u uk kj c b n l = absurd (omega arith)
    complete-ahead (suc i) u uk kj c b n l =
        let same : t.chain i ≡ t.chain (suc i) = chain_between t well.ordered u i (suc i) (omega arith) (omega arith) (omega arith) c in
        complete_stays well is u (release (suc i)) n l (complete_below well is u i (release (suc i)) (omega arith) (omega arith) (c ∙ sym same) (b same))

    own_from : (u : ℕ) → t.chain u ≡ t.chain j → RanIn u → head ≤ u
    own_from u c h =
        by_order head u
        (λ l. l)
        (λ l. absurd (h.ready.unfinished (complete-ahead head u l window.from.below (c ∙ sym window.from.same) window.from.free h.at h.after)))

    own_to : (u : ℕ) → u < t.count → t.chain u ≡ t.chain j → RanIn u → u ≤ j
    own_to u ul c h =
        by_order u j
        (λ l. l)
        (λ l. absurd (late_before well is window h.at (omega (arith, h.before)) (complete-before well is j u h.at l ul (sym c) h.entry)))

    own_less : work_in run start bound j < t.most j
    unfolding work_in
    own_less =
        let ne : work run bound j ≢ number_at times j = window.late in
        omega (arith, work_most well is j bound, is.in_range.high j window.inside)

    own_part : chain_sum t (work_in run start bound) (t.chain j) t.count < demand t head j
    own_part =
        own_sum
        t
        (work_in run start bound)
        (t.chain j)
        head
        j
        window.from.below
        window.inside
        (λ u ul c h. own_from u c (ran_in well is window u h))
        (λ u ul c h. own_to u ul c (ran_in well is window u h))
        work_in_most
        own_less

    -- ---- of another chain the jobs that run in the window stand together: one between two of them runs its whole time there
    middle : (a b e : ℕ) → a < b → b < e → e < t.count → t.chain a ≡ t.chain b → t.chain b ≡ t.chain e → RanIn a → RanIn e
        → 0 < work_in run start bound b
    unfolding work_in
    middle a b e ab be el cab cbe ra re =
        omega (
          arith,
          complete-before well is b e re.at be el cbe re.entry,
          none_after well is a b ra.at ab (omega arith) cab ra.ready.unfinished,
          time_positive well is b (omega arith),
          work_mono run b start ra.at ra.after,
          work_mono run b re.at bound (omega (arith, re.before)),
        )

    module _ (bounds : List ℕ) (at : number_at bounds j ≡ bound) (known : (u : ℕ) → u < t.count → number_at bounds u < bound → Complete times run u (number_at bounds u)) where
      -- what a job of another chain counts in the pair of the critical job and j
      abbrev weight : ℕ → ℕ
      weight = counted t (overlap t bounds) head j

      overlaps : (u : ℕ) → u < t.count → RanIn u → overlap t bounds head j u ≡ true
      overlaps u ul h =
          let early : t.earliest head ≤ start = is.releases.early head (omega (arith, window.from.below)) in
          overlap_by t bounds head j u
          (by_order (number_at bounds u) (t.earliest head)
          (λ l.
          let done : Complete times run u (number_at bounds u) = known u ul (omega (arith, h.after, h.before)) in
          absurd (h.ready.unfinished (complete_stays well is u (number_at bounds u) h.at (omega (arith, h.after)) done)))
          (λ l. l))
          (omega (arith, is.releases.early u ul, h.ready.released, h.before))

      weighs : (u : ℕ) → u < t.count → RanIn u → work_in run start bound u ≤ weight u
      weighs u ul h = rw (overlaps u ul h) (work_in_most u ul)

      other_part : (c : ℕ) → chain_sum t (work_in run start bound) c t.count ≤ largest_block t c target weight t.count
      other_part c =
          block-holds
          t
          c
          target
          weight
          (work_in run start bound)
          (record {
            urgent = λ u ul cu h. (ran_in well is window u h).urgent;
            weighs = λ u ul cu h. weighs u ul (ran_in well is window u h);
            middle = λ a b e ab be el ca cb ce ha he.
                middle a b e ab be el (ca ∙ sym cb) (cb ∙ sym ce) (ran_in well is window a ha) (ran_in well is window e he);
          })
          t.count
          (omega arith)

      -- ---- all of the window's ticks
      all_ticks : start ≤ bound
          → bound - start ≤ interference t (t.chain j) target weight + chain_sum t (work_in run start bound) (t.chain j) t.count
      unfolding interference
      all_ticks fits =
          let e : start + (bound - start) ≡ bound = omega arith in
          let sum : sum_below t.count (work_in run start bound) ≡ bound - start
          = subst (λ (m : ℕ). sum_below t.count (work_in run start m) ≡ bound - start) e (ticks well is window (bound - start) (omega arith)) in
          omega (
            arith,
            own_and_others
                t
                (work_in run start bound)
                (t.chain j)
                (λ c. largest_block t c target weight t.count)
                (chain_most t j window.inside)
                other_part,
          )

      not_late : round t bounds ≡ bounds → ⊥
      unfolding pair_bound round
      not_late fixed =
          let in_time : start ≤ t.latest head = is.releases.late head (omega (arith, window.from.below)) in
          let pair : pair_bound t (overlap t bounds) head j ≤ number_at (round t bounds) j
          = rw (at_cja t (overlap t bounds) j window.inside) (pair_below t (overlap t bounds) head j (suc j) (omega (arith, window.from.below)) window.from.same) in
          let same : number_at (round t bounds) j ≡ bound = ap (λ (b : List ℕ). number_at b j) fixed ∙ at in
          omega (arith, all_ticks (omega arith), own_part)

  -- bounds that a round leaves unchanged hold
  complete_by : (bounds : List ℕ) → round t bounds ≡ bounds → (m j : ℕ) → j < t.count → number_at bounds j < m → number_at bounds j ≤ length run
      → Complete times run j (number_at bounds j)
  complete_by bounds fixed zero j jl less long = absurd (omega arith)
  complete_by bounds fixed (suc m) j jl less long =
      by_equal (work run (number_at bounds j) j) (number_at times j)
      (λ done. done)
      (λ late.
      absurd (not_late (record { inside = jl; long = long; late = late; from = critical well is j }) bounds refl (λ u ul l. complete_by bounds fixed m u ul (omega arith) (omega arith)) fixed))

module _ (t : Table) (well : WellFormed t) where
  pub fixed_holds : (bounds : List ℕ) → round t bounds ≡ bounds → Holds t bounds
  fixed_holds bounds fixed j jl release times run is long =
      eq_complete times (work run (number_at bounds j)) j (complete_by well (run_from is) bounds fixed (suc (number_at bounds j)) j jl (omega arith) long)

  pub later-holds : (a b : List ℕ) → AtMost t.count a b → Holds t a → Holds t b
  later-holds a b le h j jl release times run is long =
      let before = complete_eq times (work run (number_at a j)) j (h j jl release times run is (omega (arith, le j jl))) in
      eq_complete times (work run (number_at b j)) j (complete_stays well (run_from is) j (number_at a j) (number_at b j) (le j jl) before)

  pub itr-holds : Holds t (itr t).bounds
  itr-holds = fixed_holds (itr t).bounds (itr_fixed t)

  pub cja-holds : Holds t (cja t)
  cja-holds = later-holds (itr t).bounds (cja t) (itr_le_cja t) itr-holds

  pub ert-holds : Holds t (ert t)
  ert-holds = later-holds (cja t) (ert t) (cja_le_ert t well.ordered) cja-holds
