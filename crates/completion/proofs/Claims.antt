-- The claims of specs/Claims, for every accepted set. Assumes nothing.
use Prim.Native.Nat.{ℕ, zero, suc, ◌<◌}
use mathlib.Core.Path.{◌≡◌, refl, sym, ap, ◌∙◌}
use mathlib.Core.Bool.{Bool}
use mathlib.Core.List.{List}
use native.Mathlib.Omega.{arith}
use native.Mathlib.Nat.{zero-add}
use lib.ListN.{length, get_or}
use Rattle.laws.specs.Words.{number_at, tabulate, padded}
use Rattle.laws.proofs.Lists.{get_d_padded}
use Rattle.laws.proofs.Tabulate.{get_d_tabulate}
use Rattle.jobs.specs.declared.job.Job.{Job}
use Rattle.jobs.specs.Limits.{max_jobs}
use Rattle.jobs.specs.Jobs.{job_at, place_in, jobs_of}
use Rattle.jobs.proofs.Accepted.{Accepted, accepted}
use Rattle.jobs.proofs.Places.{place_found}
use Rattle.theory.specs.Table.{Table, table_of}
use Rattle.theory.specs.Bounds.{ert, cja, overlap, itr}
use Rattle.theory.specs.Delays.{Delay as TheoryDelay, ert_begin, ByErt, ByPair, counts, ert_delay, cja_delay, itr_delay}
use Rattle.theory.proofs.Rules.{always}
use Rattle.theory.proofs.Claims as theory
use Rattle.completion.specs.declared.answer.Delay.{Delay}
use Rattle.completion.specs.Delays.{no_delay, delay_named, number_in, delays_named}
use Rattle.completion.specs.Answers.{ert_of, cja_of, itr_of}
use Rattle.completion.specs.Claims.{PairAddsUp, RuleAddsUp, EveryAccepted}
use Rattle.completion.proofs.Rounding.{overlap-padded}
use Rattle.completion.proofs.AddingUp.{blocks_sum}

module _ (js : List Job) (ok : Accepted js) where
  abbrev t : Table
  t = table_of js

  -- the delay of a job in the answer
  delay_at_lem : (delay : ℕ → TheoryDelay) (j : ℕ) → j < length js → get_or (padded max_jobs no_delay (delays_named js delay)) j no_delay ≡ delay_named (number_in js) (delay j)
  unfolding delays_named
  delay_at_lem delay j l =
      let named : ℕ → Delay = λ i. delay_named (number_in js) (delay i) in
      get_d_padded max_jobs no_delay (tabulate 0 (length js) named) j ∙ get_d_tabulate 0 (length js) named no_delay j l ∙ ap named (zero-add j)

  pair_adds_up : (keep : ℕ → ℕ → ℕ → Bool) (bounds : List ℕ) (delay : ℕ → TheoryDelay) → ((j : ℕ) → j < length js → ByPair t keep j (number_at bounds j) (delay j))
      → PairAddsUp js keep (padded max_jobs no_delay (delays_named js delay)) (padded max_jobs 0 bounds)
  unfolding delay_named
  pair_adds_up keep bounds delay by j l =
      let d = delay j in
      let h = by j l in
      let k : ℕ = d.from in
      let place : place_in js (job_at js j).chain (number_in js k) ≡ k
      = ap (λ (c : ℕ). place_in js c (number_in js k)) (sym h.chain) ∙ place_found js ok k (omega (arith, h.within)) in
      rw (delay_at_lem delay j l, place, get_d_padded max_jobs 0 bounds j)
      (omega (arith, h.sum, blocks_sum js ok (counts t keep k j) h.named))

  -- the bounds in the answer are those of the table
  begin-padded : (bounds : List ℕ) (j : ℕ) → ert_begin t (padded max_jobs 0 bounds) j ≡ ert_begin t bounds j
  unfolding ert_begin
  begin-padded bounds zero = refl
  begin-padded bounds (suc i) = rw (get_d_padded max_jobs 0 bounds i)

  rule_adds_up : ((j : ℕ) → j < length js → ByErt t j (ert_delay t j)) → RuleAddsUp js (padded max_jobs no_delay (delays_named js (ert_delay t))) (padded max_jobs 0 (ert t))
  unfolding delay_named
  rule_adds_up by j l =
      let h = by j l in
      rw (delay_at_lem (ert_delay t) j l, begin-padded (ert t) j, get_d_padded max_jobs 0 (ert t) j)
      (omega (arith, h.sum, blocks_sum js ok t.most h.named))

pub claims : EveryAccepted
unfolding ert_of cja_of itr_of
claims set passed =
    let js = jobs_of set in
    let ok = accepted js passed in
    let all = theory.claims js passed in
    record {
      by_ert = rw passed (rule_adds_up js ok all.ert_delays);
      by_cja = rw passed (pair_adds_up js ok always (cja (table_of js)) (cja_delay (table_of js)) all.cja_delays);
      by_itr = rw (passed, overlap-padded (table_of js) (itr (table_of js)).bounds)
          (pair_adds_up js ok (overlap (table_of js) (itr (table_of js)).bounds) (itr (table_of js)).bounds (itr_delay (table_of js)) all.itr_delays);
    }
