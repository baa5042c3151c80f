-- Work in a run: it grows, never passes the running time, and a chain's jobs are done one after the other. Assumes a well-formed table, where it is
-- said.
--   RanAt   a tick from a up to b at which job u runs
use Prim.Native.Nat.{ℕ, zero, suc, ◌+◌, ◌-◌, ◌≤◌, ◌<◌}
use mathlib.Core.Path.{◌≡◌, refl, sym, ap, subst, ◌∙◌}
use mathlib.Core.Logic.{◌≢◌}
use mathlib.Core.Bool.{true}
use mathlib.Core.List.{List}
use native.Mathlib.Omega.{arith}
use native.Mathlib.Nat.{add-zero, add-suc}
use lib.ListN.{length, get_or-eq_default}
use borrow.Author.Tests.{eqb-true, eq-eqb, ne_eqb}
use Rattle.laws.specs.Words.{number_at}
use Rattle.laws.proofs.Tests.{by_test, by_order, by_equal, by_last, both_ways}
use Rattle.theory.specs.Table.{Table}
use Rattle.theory.specs.Runs.{Entry, idle, runs, names, work}
use Rattle.theory.proofs.Legal.{entry_at, Complete, LegalEntry, Run}
use Rattle.theory.proofs.WellFormed.{WellFormed, chain_between}

-- ---- any list of entries
pub named : (e : Entry) (u : ℕ) → names e u ≡ true → e ≡ runs u
unfolding names
named idle u h = absurd (both_ways h refl)
named (runs v) u h = ap runs (eqb-true v u h)

pub same-job : {e : Entry} {u v : ℕ} → e ≡ runs u → e ≡ runs v → u ≡ v
same-job p q = cc

pub record RanAt (run : List Entry) (u a b : ℕ) : Type 0 where
  pub at : ℕ
  pub from : a ≤ at
  pub to : at < b
  pub entry : entry_at run at ≡ runs u

module _ (run : List Entry) where
  pub work_here : (u n : ℕ) → entry_at run n ≡ runs u → work run (suc n) u ≡ work run n u + 1
  unfolding work names
  work_here u n e = rw (e, eq-eqb u u refl)

  pub work_away : (u v n : ℕ) → entry_at run n ≡ runs u → u ≢ v → work run (suc n) v ≡ work run n v
  unfolding work names
  work_away u v n e h = rw (e, ne_eqb u v h) (add-zero (work run n v))

  -- either the entry at n names u, or the work of u stays
  pub by_entry : {X : Type 0} (u n : ℕ) → (entry_at run n ≡ runs u → work run (suc n) u ≡ work run n u + 1 → X)
      → (work run (suc n) u ≡ work run n u → X) → X
  by_entry u n f g =
      by_test (names (entry_at run n) u)
      (λ e. let q : entry_at run n ≡ runs u = named (entry_at run n) u e in f q (work_here u n q))
      (λ e. g (unfold work in rw e (add-zero (work run n u))))

  work-add : (u n d : ℕ) → work run n u ≤ work run (n + d) u
  work-add u n zero = rw (add-zero n) (omega arith)
  work-add u n (suc d) = rw (add-suc n d) (by_entry u (n + d) (λ e q. omega (arith, work-add u n d)) (λ q. omega (arith, work-add u n d)))

  pub work_mono : (u n m : ℕ) → n ≤ m → work run n u ≤ work run m u
  work_mono u n m l =
      let e : n + (m - n) ≡ m = omega arith in
      subst (λ (z : ℕ). work run n u ≤ work run z u) e (work-add u n (m - n))

  -- a job that gained work was run
  pub ran : (u a b : ℕ) → work run a u < work run b u → RanAt run u a b
  ran u a zero h = absurd (omega (arith, work_mono u 0 a (omega arith)))
  ran u a (suc b) h =
      by_entry u b
      (λ e q. by_order a b (λ l. record { at = b; from = l; to = omega arith; entry = e }) (λ l. absurd (omega (arith, work_mono u (suc b) a l))))
      (λ q.
      let w = ran u a b (omega arith) in
      record { at = w.at; from = w.from; to = omega (arith, w.to); entry = w.entry })

-- ---- a legal run
module _ {t : Table} (well : WellFormed t) {release : ℕ → ℕ} {times : List ℕ} {run : List Entry} (is : Run t release times run) where
  pub time_positive : (u : ℕ) → u < t.count → 1 ≤ number_at times u
  time_positive u l = omega (arith, well.positive u l, is.in_range.low u l)

  pub legal_at : (n u : ℕ) → entry_at run n ≡ runs u → LegalEntry t release times run n (runs u)
  legal_at n u e =
      by_order (length run) n
      (λ l.
      let none : entry_at run n ≡ idle = get_or-eq_default run idle l in
      let z : ◌≡◌ {A = ℕ} 0 1 = cc in
      absurd (omega arith))
      (λ l. subst (LegalEntry t release times run n) e (is.legal n l))

  pub work_most : (u n : ℕ) → work run n u ≤ number_at times u
  work_most u zero = unfold work in omega arith
  work_most u (suc n) =
      let before : work run n u ≤ number_at times u = work_most u n in
      by_entry run u n (λ e q. let ne : work run n u ≢ number_at times u = (legal_at n u e).1.unfinished in omega arith) (λ q. omega arith)

  pub complete_stays : (u n m : ℕ) → n ≤ m → Complete times run u n → Complete times run u m
  complete_stays u n m l h = omega (arith, work_mono run u n m l, work_most u m)

  -- a job with some work was run
  pub ran-before : (u n : ℕ) → 0 < work run n u → RanAt run u 0 n
  unfolding work
  ran-before u n h = ran run u 0 n h

  -- when a job is run, all before it in its chain are complete
  pub complete-before : (v u n : ℕ) → v < u → u < t.count → t.chain v ≡ t.chain u → entry_at run n ≡ runs u → Complete times run v n
  complete-before v zero n vu ul c e = absurd (omega arith)
  complete-before v (suc w) n vu ul c e =
      let same : t.chain w ≡ t.chain (suc w) = chain_between t well.ordered v w (suc w) (omega arith) (omega arith) ul c in
      let done : Complete times run w n = (legal_at n (suc w) e).1.predecessor same in
      by_last v w vu
      (λ q. subst (λ (z : ℕ). Complete times run z n) (sym q) done)
      (λ vw.
      let h = ran-before w n (omega (arith, time_positive w (omega arith))) in
      complete_stays v h.at n (omega (arith, h.to)) (complete-before v w h.at vw (omega arith) (c ∙ sym same) h.entry))

  -- when a job is complete, all before it in its chain are
  pub complete_below : (u i n : ℕ) → u ≤ i → i < t.count → t.chain u ≡ t.chain i → Complete times run i n → Complete times run u n
  complete_below u i n ui il c h =
      by_equal u i
      (λ q. subst (λ (w : ℕ). Complete times run w n) (sym q) h)
      (λ ne.
      let w = ran-before i n (omega (arith, time_positive i il)) in
      complete_stays u w.at n (omega (arith, w.to)) (complete-before u i w.at (omega arith) il c w.entry))

  -- while a job is not complete, those after it in its chain have no work
  pub none_after : (a b n : ℕ) → a < b → b < t.count → t.chain a ≡ t.chain b → (Complete times run a n → ⊥) → work run n b ≡ 0
  none_after a b n ab bl c late =
      by_order 1 (work run n b)
      (λ some.
      let w = ran-before b n some in
      absurd (late (complete_stays a w.at n (omega (arith, w.to)) (complete-before a b w.at ab bl c w.entry))))
      (λ none. omega arith)
