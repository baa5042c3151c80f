-- Tables with the same figures at their jobs' places, and choices that keep the same of their jobs, name the same pairs and blocks.
--   SameFigures   equal at every place below the count, but for the least times
-- Assumes nothing.
use Prim.Native.Nat.{ℕ, zero, suc, ◌≤◌, ◌<◌}
use mathlib.Core.Path.{◌≡◌, refl, ap, fun_ext, ◌∙◌}
use mathlib.Core.Bool.{Bool, cond}
use native.Mathlib.Omega.{arith}
use lib.Dec.{eqb}
use borrow.Author.Tests.{lt-ltb, le-ltb}
use Rattle.laws.specs.Words.{sum_below, greatest, first_below}
use Rattle.laws.proofs.Tests.{by_order}
use Rattle.laws.proofs.Sums.{sum_ext}
use Rattle.laws.proofs.Greatest.{greatest_ext}
use Rattle.laws.proofs.First.{first_ext}
use Rattle.theory.specs.Table.{Table}
use Rattle.theory.specs.Bounds.{open_block, largest_block, interference, demand, lowest, pair_bound, largest_pair}
use Rattle.theory.specs.Delays.{Block, no_block, urgent_in, ends_block, start_of, ends_largest, block_to, taken_block, blocks_on, is_largest, first_pair, counts, ert_delay, delay_at}
use Rattle.theory.proofs.Agreement.{Agree}
use Rattle.theory.proofs.Unread.{bare}
use Rattle.theory.proofs.Delays.{pair_within}

pub record SameFigures (s t : Table) : Type 0 where
  pub count : s.count ≡ t.count
  pub chain : (i : ℕ) → i < s.count → s.chain i ≡ t.chain i
  pub urgency : (i : ℕ) → i < s.count → s.urgency i ≡ t.urgency i
  pub most : (i : ℕ) → i < s.count → s.most i ≡ t.most i
  pub earliest : (i : ℕ) → i < s.count → s.earliest i ≡ t.earliest i
  pub latest : (i : ℕ) → i < s.count → s.latest i ≡ t.latest i

pub agree_figures : {s t : Table} → Agree s (bare t) → SameFigures s t
agree_figures a = record { count = a.count; chain = a.chain; urgency = a.urgency; most = a.most; earliest = a.earliest; latest = a.latest }

pub figures_same : (t : Table) → SameFigures t t
figures_same t = record { count = refl; chain = λ i l. refl; urgency = λ i l. refl; most = λ i l. refl; earliest = λ i l. refl; latest = λ i l. refl }

module _ {s t : Table} (a : SameFigures s t) where
  -- ---- blocks
  module _ (c target : ℕ) where
    in_same : (u : ℕ) → u < s.count → urgent_in s c target u ≡ urgent_in t c target u
    unfolding urgent_in
    in_same u l = rw (a.chain u l, a.urgency u l)

    ends_same : (u : ℕ) → u < s.count → ends_block s c target u ≡ ends_block t c target u
    unfolding ends_block
    ends_same u l =
        by_order s.count (suc u)
        (λ q. rw (in_same u l, le-ltb (suc u) s.count q, le-ltb (suc u) t.count (omega (arith, a.count))))
        (λ q. rw (in_same u l, in_same (suc u) q, a.count))

    start-same : (n : ℕ) → n ≤ s.count → start_of s c target n ≡ start_of t c target n
    unfolding start_of
    start-same zero l = refl
    start-same (suc u) l = rw (in_same u l, start-same u (omega arith))

    to_same : (u : ℕ) → block_to s c target u ≡ block_to t c target u
    unfolding block_to
    to_same u =
        by_order s.count u
        (λ q. rw (le-ltb u s.count q, le-ltb u t.count (omega (arith, a.count))))
        (λ q. rw (lt-ltb u s.count q, lt-ltb u t.count (omega (arith, a.count)), start-same (suc u) q))

    module _ (w v : ℕ → ℕ) (h : (u : ℕ) → u < s.count → w u ≡ v u) where
      open_same : (n : ℕ) → n ≤ s.count → open_block s c target w n ≡ open_block t c target v n
      unfolding open_block
      open_same zero l = refl
      open_same (suc u) l = rw (open_same u (omega arith), a.chain u l, a.urgency u l, h u l)

      largest_same : largest_block s c target w s.count ≡ largest_block t c target v t.count
      unfolding largest_block
      largest_same = greatest_ext s.count _ _ (λ u l. open_same (suc u) l) ∙ ap (λ (n : ℕ). greatest n (λ u. open_block t c target v (suc u))) a.count

      ends-largest-same : (u : ℕ) → u < s.count → ends_largest s c target w u ≡ ends_largest t c target v u
      unfolding ends_largest
      ends-largest-same u l = rw (ends_same u l, open_same (suc u) l, largest_same)

      pub taken_same : taken_block s c target w ≡ taken_block t c target v
      unfolding taken_block
      taken_same =
          let place : first_below s.count (ends_largest s c target w) ≡ first_below t.count (ends_largest t c target v)
          = first_ext _ _ s.count ends-largest-same ∙ ap (λ (n : ℕ). first_below n (ends_largest t c target v)) a.count in
          to_same (first_below s.count (ends_largest s c target w)) ∙ ap (block_to t c target) place

  module _ (own target : ℕ) (w v : ℕ → ℕ) (h : (u : ℕ) → u < s.count → w u ≡ v u) where
    pub blocks_same : blocks_on s own target w ≡ blocks_on t own target v
    unfolding blocks_on
    blocks_same = fun_ext (λ c. ap (cond (eqb c own) no_block) (taken_same c target w v h))

    interference-same : interference s own target w ≡ interference t own target v
    unfolding interference
    interference-same =
        let chains : greatest s.count s.chain ≡ greatest t.count t.chain
        = greatest_ext s.count s.chain t.chain a.chain ∙ ap (λ (n : ℕ). greatest n t.chain) a.count in
        sum_ext (suc (greatest s.count s.chain)) _ _ (λ c l. ap (cond (eqb c own) 0) (largest_same c target w v h))
        ∙ ap (λ (n : ℕ). sum_below (suc n) (λ c. cond (eqb c own) 0 (largest_block t c target v t.count))) chains

  pub ert_delay-same : (j : ℕ) → j < s.count → ert_delay s j ≡ ert_delay t j
  unfolding ert_delay
  ert_delay-same j l =
      rw (a.chain j l, a.urgency j l) (ap (λ (block : ℕ → Block). record { from = j; block = block }) (blocks_same (t.chain j) (t.urgency j) s.most t.most a.most))

  -- ---- pairs
  demand-same : (k j : ℕ) → j < s.count → demand s k j ≡ demand t k j
  unfolding demand
  demand-same k zero l = a.most 0 l
  demand-same k (suc j) l = rw (demand-same k j (omega arith), a.most (suc j) l)

  lowest-same : (k j : ℕ) → j < s.count → lowest s k j ≡ lowest t k j
  unfolding lowest
  lowest-same k zero l = a.urgency 0 l
  lowest-same k (suc j) l = rw (lowest-same k j (omega arith), a.urgency (suc j) l)

  module _ (keep other : ℕ → ℕ → ℕ → Bool) (j : ℕ) (jl : j < s.count)
      (h : (k u : ℕ) → k ≤ j → u < s.count → keep k j u ≡ other k j u) where
    counts_same : (k : ℕ) → k ≤ j → (u : ℕ) → u < s.count → counts s keep k j u ≡ counts t other k j u
    counts_same k kj u ul = rw (h k u kj ul, a.most u ul)

    pair_same : (k : ℕ) → k ≤ j → pair_bound s keep k j ≡ pair_bound t other k j
    unfolding pair_bound
    pair_same k kj =
        rw (
          a.latest k (omega arith),
          demand-same k j jl,
          a.chain j jl,
          lowest-same k j jl,
          interference-same (t.chain j) (lowest t k j) (counts s keep k j) (counts t other k j) (counts_same k kj),
        )

    largest_pair-same : largest_pair s keep j (suc j) ≡ largest_pair t other j (suc j)
    unfolding largest_pair
    largest_pair-same = greatest_ext (suc j) _ _ (λ k l. rw (a.chain k (omega arith), a.chain j jl, pair_same k (omega arith)))

    pub first_pair-same : first_pair s keep j ≡ first_pair t other j
    unfolding first_pair is_largest
    first_pair-same = first_ext _ _ (suc j) (λ k l. rw (a.chain k (omega arith), a.chain j jl, pair_same k (omega arith), largest_pair-same))

    pub delay_same : delay_at s keep j ≡ delay_at t other j
    unfolding delay_at
    delay_same =
        let k : ℕ = first_pair s keep j in
        let blocks : blocks_on s (s.chain j) (lowest s k j) (counts s keep k j) ≡ blocks_on t (t.chain j) (lowest t k j) (counts t other k j)
        = rw (a.chain j jl, lowest-same k j jl) (blocks_same (t.chain j) (lowest t k j) (counts s keep k j) (counts t other k j) (counts_same k (pair_within s keep j))) in
        rw blocks (ap (λ (k : ℕ). record { from = k; block = blocks_on t (t.chain j) (lowest t k j) (counts t other k j) }) first_pair-same)
