-- Along a chain figures rise: effective releases, the bounds that ITR starts from, and those after any number of rounds.
--   Upwards   a figure that does not fall from a job to the next of its chain
-- Assumes nothing; between two jobs that do not stand next to each other, that the chains come in order.
use Prim.Native.Nat.{ℕ, zero, suc, ◌+◌, ◌-◌, ◌≤◌, ◌<◌, min}
use mathlib.Core.Path.{◌≡◌, refl, sym, subst, ◌∙◌}
use mathlib.Core.Bool.{Bool}
use mathlib.Core.List.{List}
use native.Mathlib.Omega.{arith}
use native.Mathlib.Nat.{add-zero, add-suc}
use Rattle.laws.specs.Words.{number_at, greatest}
use Rattle.laws.proofs.Tests.{cond_le}
use Rattle.jobs.specs.declared.job.Job.{Job}
use Rattle.theory.specs.Table.{Table, table_of}
use Rattle.theory.specs.Bounds.{open_block, largest_block, interference, pair_bound, largest_pair, lowest, overlap, round, after}
use Rattle.theory.specs.Claims.{Rises}
use Rattle.theory.proofs.Given.{given}
use Rattle.theory.proofs.WellFormed.{Ordered, chain_between}
use Rattle.theory.proofs.Rules.{counted, ert-next, demand_more, lowest_more, pairs_least, pair_below, at_cja, at_start}
use Rattle.theory.proofs.Blocks.{by_place, block_out, block_on, block-ends, largest_step}
use Rattle.theory.proofs.Interference.{interference-within, interference_mono}
use Rattle.theory.proofs.Overlaps.{overlap-left, overlap_right, overlap_by}
use Rattle.theory.proofs.Releases.{release-next}

abbrev pub Upwards : Table → (ℕ → ℕ) → Type 0
Upwards t figure = (i : ℕ) → suc i < t.count → t.chain i ≡ t.chain (suc i) → figure i ≤ figure (suc i)

pub rises_upwards : (t : Table) (figure by : ℕ → ℕ) → Rises t figure by → Upwards t figure
rises_upwards t figure by rises i l c = omega (arith, rises i l c)

-- ---- from a job to any later one of its chain
module _ (t : Table) (o : Ordered t) (figure : ℕ → ℕ) (up : Upwards t figure) where
  upwards_add : (u d : ℕ) → u + d < t.count → t.chain u ≡ t.chain (u + d) → figure u ≤ figure (u + d)
  upwards_add u zero l c = rw (add-zero u) (omega arith)
  upwards_add u (suc d) l c =
      let more : u + suc d ≡ suc (u + d) = add-suc u d in
      let last : t.chain (u + d) ≡ t.chain (u + suc d) = chain_between t o u (u + d) (u + suc d) (omega arith) (omega arith) l c in
      let step : figure (u + d) ≤ figure (suc (u + d)) = up (u + d) (omega arith) (rw more at last) in
      rw more (omega (arith, upwards_add u d (omega arith) (c ∙ sym last), step))

  pub upwards_le : (u v : ℕ) → u ≤ v → v < t.count → t.chain u ≡ t.chain v → figure u ≤ figure v
  upwards_le u v l vl c =
      let e : u + (v - u) ≡ v = omega arith in
      subst (λ (z : ℕ). figure u ≤ figure z) e (upwards_add u (v - u) (omega arith) (subst (λ (z : ℕ). t.chain u ≡ t.chain z) (sym e) c))

-- ---- a lower target meets no less interference
module _ (t : Table) (w : ℕ → ℕ) (low high : ℕ) (l : low ≤ high) where
  open_lower : (c n : ℕ) → open_block t c high w n ≤ open_block t c low w n
  open_lower c zero = unfold open_block in omega arith
  open_lower c (suc u) =
      by_place t c high u
      (λ ne. omega (arith, block_out t c high w u ne, block_out t c low w u ne, open_lower c u))
      (λ e urgent. omega (arith, block_on t c high w u e urgent, block_on t c low w u e (omega arith), open_lower c u))
      (λ e less. omega (arith, block-ends t c high w u e less))

  block_lower : (c n : ℕ) → largest_block t c high w n ≤ largest_block t c low w n
  block_lower c zero = unfold largest_block greatest in omega arith
  block_lower c (suc u) = omega (arith, largest_step t c high w u, largest_step t c low w u, block_lower c u, open_lower c (suc u))

  interference_lower : (own : ℕ) → interference t own high w ≤ interference t own low w
  interference_lower own =
      unfold interference in interference-within t own high w (λ c. largest_block t c low w t.count) (λ c ne. block_lower c t.count)

-- ---- effective releases
pub releases_rise : (js : List Job) → Rises (table_of js) (table_of js).earliest (table_of js).least
releases_rise js i l c = omega (arith, release-next (given js) i c)

-- ---- bounds
module _ (t : Table) where
  start_rises : Rises t (number_at (after t 0)) (λ i. t.most (suc i))
  start_rises i l c = omega (arith, at_start t i (omega arith), at_start t (suc i) l, ert-next t (λ k. 0) i c)

  module _ (previous : List ℕ) (up : Upwards t (number_at previous)) where
    abbrev keep : ℕ → ℕ → ℕ → Bool
    keep = overlap t previous

    -- with one job more at its end a pair takes at least that job's most time more
    pair_rises : (k i : ℕ) → k ≤ i → suc i < t.count → t.chain i ≡ t.chain (suc i) → pair_bound t keep k i + t.most (suc i) ≤ pair_bound t keep k (suc i)
    unfolding pair_bound
    pair_rises k i ki l c =
        let lower : lowest t k (suc i) ≡ min (lowest t k i) (t.urgency (suc i)) = lowest_more t k i ki in
        let more : interference t (t.chain i) (lowest t k i) (counted t keep k i) ≤ interference t (t.chain i) (lowest t k i) (counted t keep k (suc i))
        = interference_mono t (t.chain i) (lowest t k i) (counted t keep k i) (counted t keep k (suc i)) (λ u ul ne.
        cond_le (keep k i u) (keep k (suc i) u) (t.most u) (λ q. overlap_by t previous k (suc i) u (overlap-left t previous k i u q) (omega (arith, overlap_right t previous k i u q, up i l c)))) in
        let less : interference t (t.chain i) (lowest t k i) (counted t keep k (suc i)) ≤ interference t (t.chain i) (lowest t k (suc i)) (counted t keep k (suc i))
        = interference_lower t (counted t keep k (suc i)) (lowest t k (suc i)) (lowest t k i) (omega arith) (t.chain i) in
        rw (← c) (omega (arith, more, less, demand_more t k i ki))

    round_rises : Rises t (number_at (round t previous)) (λ i. t.most (suc i))
    unfolding round
    round_rises i l c =
        let whole : ℕ = largest_pair t keep (suc i) (suc (suc i)) in
        let below : (k : ℕ) → k < suc i → t.chain k ≡ t.chain i → pair_bound t keep k i + t.most (suc i) ≤ whole
        = (λ k kl ck. omega (arith, pair_rises k i (omega arith) l c, pair_below t keep k (suc i) (suc (suc i)) (omega arith) (ck ∙ c))) in
        rw (at_cja t keep i (omega arith), at_cja t keep (suc i) l)
        (omega (arith, pairs_least t keep i (whole - t.most (suc i)) (suc i) (λ k kl ck. omega (arith, below k kl ck)), below i (omega arith) refl))

  pub after_rises : (n : ℕ) → Rises t (number_at (after t n)) (λ i. t.most (suc i))
  unfolding after
  after_rises zero = start_rises
  after_rises (suc n) = round_rises (after t n) (rises_upwards t (number_at (after t n)) (λ i. t.most (suc i)) (after_rises n))
