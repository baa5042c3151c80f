-- What a rule does not read of a table does not count: the bounds read all but the least times.
--   bare   a table with no least times
-- Assumes nothing.
use Prim.Native.Nat.{ℕ, zero, suc}
use mathlib.Core.Path.{◌≡◌, refl, sym, ap, ◌∙◌, fun_ext}
use mathlib.Core.Bool.{Bool, cond}
use mathlib.Core.List.{List}
use lib.Dec.{eqb}
use Rattle.laws.specs.Words.{sum_below, tabulate, greatest}
use Rattle.theory.specs.Table.{Table, joined}
use Rattle.theory.specs.Bounds.{open_block, largest_block, interference, ert_rule, interference_at, ert, demand, lowest, pair_bound, largest_pair, cja_with, cja, itr_start, overlap, round, after, itr}
use Rattle.theory.specs.Claims.{Repeats}
use Rattle.theory.proofs.Settling.{itr_settled, settled_unique}
use Rattle.theory.proofs.Rules.{always}

abbrev pub bare : Table → Table
bare t =
    record {
      count = t.count;
      chain = t.chain;
      urgency = t.urgency;
      least = λ i. 0;
      most = t.most;
      earliest = t.earliest;
      latest = t.latest;
    }

module _ (t : Table) where
  open_bare : (c target : ℕ) (w : ℕ → ℕ) (u : ℕ) → open_block (bare t) c target w u ≡ open_block t c target w u
  unfolding open_block
  open_bare c target w zero = refl
  open_bare c target w (suc u) = rw (open_bare c target w u)

  block-bare : (c target : ℕ) (w : ℕ → ℕ) (u : ℕ) → largest_block (bare t) c target w u ≡ largest_block t c target w u
  unfolding largest_block greatest
  block-bare c target w zero = refl
  block-bare c target w (suc u) = rw (block-bare c target w u, open_bare c target w (suc u))

  interference-bare : (own target : ℕ) (w : ℕ → ℕ) → interference (bare t) own target w ≡ interference t own target w
  unfolding interference
  interference-bare own target w =
      ap (λ (f : ℕ → ℕ). sum_below (suc (greatest t.count t.chain)) f)
      (fun_ext (λ c. ap (λ (b : ℕ). cond (eqb c own) 0 b) (block-bare c target w t.count)))

  rule_bare : (inter : ℕ → ℕ) (i : ℕ) → ert_rule (bare t) inter i ≡ ert_rule t inter i
  unfolding ert_rule joined
  rule_bare inter zero = refl
  rule_bare inter (suc i) = rw (rule_bare inter i)

  demand-bare : (k j : ℕ) → demand (bare t) k j ≡ demand t k j
  unfolding demand
  demand-bare k zero = refl
  demand-bare k (suc j) = rw (demand-bare k j)

  lowest-bare : (k j : ℕ) → lowest (bare t) k j ≡ lowest t k j
  unfolding lowest
  lowest-bare k zero = refl
  lowest-bare k (suc j) = rw (lowest-bare k j)

  pair_bare : (keep : ℕ → ℕ → ℕ → Bool) (k j : ℕ) → pair_bound (bare t) keep k j ≡ pair_bound t keep k j
  unfolding pair_bound
  pair_bare keep k j = rw (demand-bare k j, lowest-bare k j, interference-bare (t.chain j) (lowest t k j) (λ u. cond (keep k j u) (t.most u) 0))

  largest-bare : (keep : ℕ → ℕ → ℕ → Bool) (j n : ℕ) → largest_pair (bare t) keep j n ≡ largest_pair t keep j n
  unfolding largest_pair greatest
  largest-bare keep j zero = refl
  largest-bare keep j (suc k) = rw (largest-bare keep j k, pair_bare keep k j)

  cja_with-bare : (keep : ℕ → ℕ → ℕ → Bool) → cja_with (bare t) keep ≡ cja_with t keep
  unfolding cja_with
  cja_with-bare keep = ap (tabulate 0 t.count) (fun_ext (λ j. largest-bare keep j (suc j)))

  pub ert-bare : ert (bare t) ≡ ert t
  unfolding ert interference_at
  ert-bare =
      ap (tabulate 0 t.count)
      (fun_ext (λ i. rule_bare _ i ∙ ap (λ (f : ℕ → ℕ). ert_rule t f i) (fun_ext (λ k. interference-bare (t.chain k) (t.urgency k) t.most))))

  pub cja-bare : cja (bare t) ≡ cja t
  unfolding cja
  cja-bare = cja_with-bare always

  round-bare : (b : List ℕ) → round (bare t) b ≡ round t b
  unfolding round overlap
  round-bare b = cja_with-bare (overlap t b)

  after-bare : (n : ℕ) → after (bare t) n ≡ after t n
  unfolding after itr_start
  after-bare zero = ap (tabulate 0 t.count) (fun_ext (λ i. rule_bare (λ k. 0) i))
  after-bare (suc n) = round-bare (after (bare t) n) ∙ ap (round t) (after-bare n)

  repeats_bare : (n : ℕ) → Repeats (bare t) n → Repeats t n
  repeats_bare zero r = r
  repeats_bare (suc n) r = sym (after-bare (suc n)) ∙ r ∙ after-bare n

  bare_repeats : (n : ℕ) → Repeats t n → Repeats (bare t) n
  bare_repeats zero r = r
  bare_repeats (suc n) r = after-bare (suc n) ∙ r ∙ sym (after-bare n)

  pub itr-bare : itr (bare t) ≡ itr t
  itr-bare =
      let h = itr_settled (bare t) in
      settled_unique t (itr (bare t)) (itr t)
      (record {
        made = h.made ∙ after-bare (itr (bare t)).rounds;
        last = repeats_bare (itr (bare t)).rounds h.last;
        first = λ n l r. h.first n l (bare_repeats n r);
      })
      (itr_settled t)
