-- The order of two ready jobs: by urgency, then by the time since when each is ready, then by chain, then by place. All that other proofs use of it are
-- the laws below. Assumes nothing.
--   goes_first           a job goes before another by urgency, readiness or chain
--   Before              a job is picked before another: it goes first, or neither does and it comes first in the table
--   before_asymmetric   no two jobs are each before the other
--   before-total        of two jobs one is before the other
--   before_urgent       no job is before a more urgent one
--   before_since        no job is before an equal that became ready earlier
--   before_same         the order of two jobs does not change while both are ready since the same times
use Prim.Native.Nat.{ℕ, ◌≤◌, ◌<◌}
use mathlib.Core.Path.{◌≡◌, ◌∙◌}
use mathlib.Core.Bool.{Bool, true, false}
use mathlib.Core.Logic.{◌⊎◌, inl, inr, ⊎_elim, ◌≢◌}
use native.Mathlib.Omega.{arith}
use lib.Dec.{ltb}
use borrow.Author.Tests.{lt-ltb, le-ltb, eq-eqb, ne_eqb}
use Rattle.laws.proofs.Tests.{by_test, by_order, by_equal, both_ways}
use Rattle.theory.specs.Table.{Table}
use Rattle.machine.specs.declared.rank.Rank.{Rank}
use Rattle.machine.specs.Order.{ready_since, rank_of, outranks}

-- ---- the relation on ranks
-- what it takes to outrank, and not to
data Above (a b : Rank) : Type 0 where
  higher : b.urgency < a.urgency → Above a b
  sooner : a.urgency ≡ b.urgency → a.since < b.since → Above a b
  lower : a.urgency ≡ b.urgency → a.since ≡ b.since → a.chain < b.chain → Above a b

data Behind (a b : Rank) : Type 0 where
  below : a.urgency < b.urgency → Behind a b
  later : a.urgency ≡ b.urgency → b.since < a.since → Behind a b
  after : a.urgency ≡ b.urgency → a.since ≡ b.since → b.chain ≤ a.chain → Behind a b

module _ (a b : Rank) where
  pub outranks_apart : a.urgency ≢ b.urgency → outranks a b ≡ ltb b.urgency a.urgency
  unfolding outranks
  outranks_apart ne = by_test (ltb b.urgency a.urgency) (λ e. rw e) (λ e. rw (e, ne_eqb a.urgency b.urgency ne))

  pub outranks_equal : a.urgency ≡ b.urgency → a.since ≢ b.since → outranks a b ≡ ltb a.since b.since
  unfolding outranks
  outranks_equal e ne =
      by_test (ltb a.since b.since)
      (λ l. rw (le-ltb b.urgency a.urgency (omega arith), eq-eqb a.urgency b.urgency e, l))
      (λ l. rw (le-ltb b.urgency a.urgency (omega arith), eq-eqb a.urgency b.urgency e, l, ne_eqb a.since b.since ne))

  pub outranks-last : a.urgency ≡ b.urgency → a.since ≡ b.since → outranks a b ≡ ltb a.chain b.chain
  unfolding outranks
  outranks-last e f =
      rw (le-ltb b.urgency a.urgency (omega arith), eq-eqb a.urgency b.urgency e, le-ltb a.since b.since (omega arith), eq-eqb a.since b.since f)

  -- which of the two a rank is, and what the relation then says
  data Placed : Type 0 where
    is_above : Above a b → outranks a b ≡ true → Placed
    is_behind : Behind a b → outranks a b ≡ false → Placed

  placed : Placed
  placed =
      by_equal a.urgency b.urgency equal
      (λ ne.
      by_order a.urgency b.urgency
      (λ l. is_behind (below (omega arith)) (outranks_apart ne ∙ le-ltb b.urgency a.urgency l))
      (λ l. is_above (higher l) (outranks_apart ne ∙ lt-ltb b.urgency a.urgency l)))
    where
      same : a.urgency ≡ b.urgency → a.since ≡ b.since → Placed
      same e f =
          by_order b.chain a.chain
          (λ l. is_behind (after e f l) (outranks-last e f ∙ le-ltb a.chain b.chain l))
          (λ l. is_above (lower e f l) (outranks-last e f ∙ lt-ltb a.chain b.chain l))

      equal : a.urgency ≡ b.urgency → Placed
      equal e =
          by_equal a.since b.since (same e)
          (λ ne.
          by_order b.since a.since
          (λ l. is_behind (later e (omega arith)) (outranks_equal e ne ∙ le-ltb a.since b.since l))
          (λ l. is_above (sooner e l) (outranks_equal e ne ∙ lt-ltb a.since b.since l)))

  above : outranks a b ≡ true → Above a b
  above h = by_placed placed
    where
      by_placed : Placed → Above a b
      by_placed (is_above r e) = r
      by_placed (is_behind r e) = absurd (both_ways h e)

  behind : outranks a b ≡ false → Behind a b
  behind h = by_placed placed
    where
      by_placed : Placed → Behind a b
      by_placed (is_above r e) = absurd (both_ways e h)
      by_placed (is_behind r e) = r

  never_both : Above a b → Behind a b → ⊥
  never_both (higher l) (below m) = omega arith
  never_both (higher l) (later e m) = omega arith
  never_both (higher l) (after e f m) = omega arith
  never_both (sooner e l) (below m) = omega arith
  never_both (sooner e l) (later f m) = omega arith
  never_both (sooner e l) (after f g m) = omega arith
  never_both (lower e f l) (below m) = omega arith
  never_both (lower e f l) (later g m) = omega arith
  never_both (lower e f l) (after g h m) = omega arith

  above_outranks : Above a b → outranks a b ≡ true
  above_outranks r = by_placed placed
    where
      by_placed : Placed → outranks a b ≡ true
      by_placed (is_above q e) = e
      by_placed (is_behind q e) = absurd (never_both r q)

  turned : Above a b → Behind b a
  turned (higher l) = below l
  turned (sooner e l) = later (omega arith) l
  turned (lower e f l) = after (omega arith) (omega arith) (omega arith)

  -- what is not outranked by one outranks all that the one does
  overtakes : (c : Rank) → Behind a b → Above a c → Above b c
  overtakes c (below l) (higher m) = higher (omega arith)
  overtakes c (below l) (sooner e m) = higher (omega arith)
  overtakes c (below l) (lower e h m) = higher (omega arith)
  overtakes c (later e l) (higher m) = higher (omega arith)
  overtakes c (later e l) (sooner h m) = sooner (omega arith) (omega arith)
  overtakes c (later e l) (lower h k m) = sooner (omega arith) (omega arith)
  overtakes c (after e h l) (higher m) = higher (omega arith)
  overtakes c (after e h l) (sooner k m) = sooner (omega arith) (omega arith)
  overtakes c (after e h l) (lower k n m) = lower (omega arith) (omega arith) (omega arith)

-- ---- the relation on jobs, by the completions so far
-- the job at u goes before the one at v
unfoldable pub goes_first : Table → (ℕ → ℕ) → ℕ → ℕ → Bool
goes_first t completed u v = outranks (rank_of t completed u) (rank_of t completed v)

module _ (t : Table) (completed : ℕ → ℕ) where
  abbrev rank : ℕ → Rank
  rank u = rank_of t completed u

  first_asymmetric : (u v : ℕ) → goes_first t completed u v ≡ true → goes_first t completed v u ≡ true → ⊥
  unfolding goes_first
  first_asymmetric u v h g = never_both (rank u) (rank v) (above (rank u) (rank v) h) (turned (rank v) (rank u) (above (rank v) (rank u) g))

  first_split : (u v w : ℕ) → goes_first t completed u w ≡ true → (goes_first t completed u v ≡ true) ⊎ (goes_first t completed v w ≡ true)
  unfolding goes_first
  first_split u v w h =
      by_test (outranks (rank u) (rank v))
      (λ e. inl e)
      (λ e. inr (above_outranks (rank v) (rank w) (overtakes (rank u) (rank v) (rank w) (behind (rank u) (rank v) e) (above (rank u) (rank w) h))))

  first_behind : (u v : ℕ) → goes_first t completed u v ≡ false → Behind (rank u) (rank v)
  unfolding goes_first
  first_behind u v h = behind (rank u) (rank v) h

  abbrev pub Before : ℕ → ℕ → Type 0
  Before u v = (goes_first t completed u v ≡ true) ⊎ ((goes_first t completed v u ≡ false) × (u < v))

  pub before_asymmetric : {u v : ℕ} → Before u v → Before v u → ⊥
  before_asymmetric {u} {v} (inl h) (inl g) = first_asymmetric u v h g
  before_asymmetric (inl h) (inr g) = both_ways h g.0
  before_asymmetric (inr h) (inl g) = both_ways g h.0
  before_asymmetric (inr h) (inr g) = omega (arith, h.1, g.1)

  pub before-total : {u v : ℕ} → u ≢ v → Before u v ⊎ Before v u
  before-total {u} {v} ne =
      by_test (goes_first t completed u v)
      (λ h. inl (inl h))
      (λ h.
      by_test (goes_first t completed v u)
      (λ g. inr (inl g))
      (λ g. by_order u v (λ l. inl (inr (g, omega arith))) (λ l. inr (inr (h, l)))))

  -- the job that is before is not behind
  before-behind : {u v : ℕ} → Before u v → Behind (rank v) (rank u)
  before-behind {u} {v} (inl h) = first_behind v u (by_test (goes_first t completed v u) (λ g. absurd (first_asymmetric u v h g)) (λ g. g))
  before-behind {u} {v} (inr h) = first_behind v u h.0

  pub before_urgent : {u v : ℕ} → Before u v → t.urgency v ≤ t.urgency u
  before_urgent {u} {v} b = by_behind (before-behind b)
    where
      by_behind : Behind (rank v) (rank u) → t.urgency v ≤ t.urgency u
      by_behind (below l) = omega arith
      by_behind (later e l) = omega arith
      by_behind (after e f l) = omega arith

  pub before_since : {u v : ℕ} → Before u v → t.urgency u ≤ t.urgency v → ready_since t completed u ≤ ready_since t completed v
  before_since {u} {v} b m = by_behind (before-behind b)
    where
      by_behind : Behind (rank v) (rank u) → ready_since t completed u ≤ ready_since t completed v
      by_behind (below l) = absurd (omega arith)
      by_behind (later e l) = omega arith
      by_behind (after e f l) = omega arith

  pub first_before : {u v w : ℕ} → goes_first t completed u v ≡ true → Before v w → Before u w
  first_before {u} {v} {w} h (inl g) = inl (⊎_elim (λ e. e) (λ e. absurd (first_asymmetric v w g e)) (first_split u w v h))
  first_before {u} {v} {w} h (inr g) = inl (⊎_elim (λ e. e) (λ e. absurd (both_ways e g.0)) (first_split u w v h))

-- ---- while both are ready since the same times
module _ (t : Table) (old new : ℕ → ℕ) {u v : ℕ} (a : ready_since t new u ≡ ready_since t old u) (b : ready_since t new v ≡ ready_since t old v) where
  pub before_same : Before t old u v → Before t new u v
  unfolding goes_first
  before_same (inl h) = inl (rw (a, b) h)
  before_same (inr h) = inr (rw (a, b) h.0, h.1)
