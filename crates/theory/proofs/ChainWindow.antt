-- The window of a chain in a pair: the jobs whose spans overlap the pair's stand together, and their largest block is found from the right.
--   Climbs     a figure by place that never falls from `first` to before `end`
--   Released   the jobs from `first` to before hi are released before the pair's span closes
--   Late       those from hi to before `end` are not
--   Swept      what a walk to the left holds at place lo of the window that ends before hi: all jobs behind it end after `from`
--   Whole      and no job before lo does
--   Chained    what the walk asks of the chain's jobs
-- Assumes nothing.
use Prim.Native.Nat.{ℕ, suc, ◌+◌, ◌*◌, ◌-◌, ◌≤◌, ◌<◌, max}
use mathlib.Core.Path.{◌≡◌, sym, subst, ◌∙◌}
use mathlib.Core.List.{List}
use native.Mathlib.Omega.{arith}
use lib.ListN.{get_or}
use borrow.Author.Tests.{lt-ltb, le-ltb}
use Rattle.laws.proofs.Tests.{by_order}
use Rattle.jobs.specs.Limits.{max_jobs, max_time}
use Rattle.theory.proofs.Weights.{weight_of}
use Rattle.theory.proofs.Columns.{figure}
use Rattle.theory.proofs.Stretches.{opened, largest_over}
use Rattle.theory.proofs.Sweeps.{edge_over, sweep_over, edge_none, sweep_none, edge_next, sweep_next, edge_small, sweep_window, trim_right}

abbrev pub Climbs : (ℕ → ℕ) → ℕ → ℕ → Type 0
Climbs figure first end = (u v : ℕ) → first ≤ u → u ≤ v → v < end → figure u ≤ figure v

abbrev pub Released : (ℕ → ℕ) → ℕ → ℕ → ℕ → Type 0
Released release to first hi = (u : ℕ) → first ≤ u → u < hi → release u < to

abbrev pub Late : (ℕ → ℕ) → ℕ → ℕ → ℕ → Type 0
Late release to hi end = (u : ℕ) → hi ≤ u → u < end → to ≤ release u

pub record Swept (urgency most bound : ℕ → ℕ) (target from first lo hi edge largest : ℕ) : Type 0 where
  pub after : first ≤ lo
  pub inside : lo ≤ hi
  pub overlaps : (u : ℕ) → lo ≤ u → u < hi → from < bound u
  pub edge_is : edge ≡ edge_over urgency target most lo (hi - lo)
  pub largest_is : largest ≡ sweep_over urgency target most lo (hi - lo)

pub record Whole (urgency most bound : ℕ → ℕ) (target from first lo hi edge largest : ℕ) : Type 0 where
  pub swept : Swept urgency most bound target from first lo hi edge largest
  pub passed : (u : ℕ) → first ≤ u → u < lo → bound u ≤ from

-- ---- the same of lent columns and bounds
abbrev pub urgencies_in : List (List ℕ) → ℕ → ℕ
urgencies_in columns u = figure columns 1 u

abbrev pub mosts_in : List (List ℕ) → ℕ → ℕ
mosts_in columns u = figure columns 2 u

abbrev pub releases_in : List (List ℕ) → ℕ → ℕ
releases_in columns u = figure columns 3 u

abbrev pub bounds_in : List ℕ → ℕ → ℕ
bounds_in bound u = get_or bound u 0

abbrev pub SweptIn : List (List ℕ) → List ℕ → ℕ → ℕ → ℕ → ℕ → ℕ → ℕ → ℕ → Type 0
SweptIn columns bound target from first lo hi edge largest = Swept (urgencies_in columns) (mosts_in columns) (bounds_in bound) target from first lo hi edge largest

abbrev pub WholeIn : List (List ℕ) → List ℕ → ℕ → ℕ → ℕ → ℕ → ℕ → ℕ → ℕ → Type 0
WholeIn columns bound target from first lo hi edge largest = Whole (urgencies_in columns) (mosts_in columns) (bounds_in bound) target from first lo hi edge largest

pub record Chained (columns : List (List ℕ)) (bound : List ℕ) (first end : ℕ) : Type 0 where
  pub before : first ≤ end
  pub within : end ≤ max_jobs
  pub releases : Climbs (releases_in columns) first end
  pub bounds : Climbs (bounds_in bound) first end
  pub mosts : (u : ℕ) → u < end → mosts_in columns u ≤ max_time

-- what the jobs of a chain count in a pair
abbrev pub counts : (ℕ → ℕ) → (ℕ → ℕ) → (ℕ → ℕ) → ℕ → ℕ → ℕ → ℕ
counts most release bound from to u = weight_of from to (most u) (release u) (bound u)

module _ (most release bound : ℕ → ℕ) (from to u : ℕ) where
  ends_early : bound u ≤ from → counts most release bound from to u ≡ 0
  unfolding weight_of
  ends_early l = rw (le-ltb from (bound u) l)

  comes_late : to ≤ release u → counts most release bound from to u ≡ 0
  unfolding weight_of
  comes_late l = by_order (bound u) from (λ e. rw (le-ltb from (bound u) e)) (λ e. rw (lt-ltb from (bound u) e, le-ltb (release u) to l))

  overlaps_whole : from < bound u → release u < to → counts most release bound from to u ≡ most u
  unfolding weight_of
  overlaps_whole l m = rw (lt-ltb from (bound u) l, lt-ltb (release u) to m)

-- the jobs to before hi of a chain that can be swept can be
pub chained_less : {columns : List (List ℕ)} {bound : List ℕ} {first end hi : ℕ} → Chained columns bound first end → first ≤ hi → hi ≤ end → Chained columns bound first hi
chained_less h a b =
    record {
      before = a;
      within = omega (arith, h.within);
      releases = λ u v c d e. h.releases u v c d (omega arith);
      bounds = λ u v c d e. h.bounds u v c d (omega arith);
      mosts = λ u l. h.mosts u (omega arith);
    }

-- ---- where the window ends: releases that rise are late from one place on
module _ (release : ℕ → ℕ) (to first end : ℕ) (up : Climbs release first end) (hi : ℕ) where
  pub late_here : first ≤ hi → hi < end → to ≤ release hi → Late release to hi end
  late_here a l late u b c = omega (arith, up hi u a b c)

  pub late_more : Late release to (suc hi) end → to ≤ release hi → Late release to hi end
  late_more rest late u b c = by_order u hi (λ l. subst (λ (z : ℕ). to ≤ release z) (omega arith) late) (λ l. rest u l c)

  pub released_here : hi < end → release hi < to → Released release to first (suc hi)
  released_here l soon u a b = omega (arith, up u hi a (omega arith) l)

pub late_both : {release : ℕ → ℕ} {to hi mid end : ℕ} → Late release to hi mid → Late release to mid end → Late release to hi end
late_both {mid = mid} near far u a b = by_order mid u (λ l. far u l b) (λ l. near u a l)

-- jobs released too late count nothing, wherever the chain ends behind them
pub late_nothing : (urgency most release bound : ℕ → ℕ) (target from to first hi end : ℕ) → first ≤ hi → hi ≤ end → Late release to hi end
    → largest_over urgency target (counts most release bound from to) first (end - first)
    ≡ largest_over urgency target (counts most release bound from to) first (hi - first)
late_nothing urgency most release bound target from to first hi end a b late =
    let whole : (hi - first) + (end - hi) ≡ end - first = omega arith in
    rw whole at
    (trim_right urgency target (counts most release bound from to) first (hi - first) (end - hi) (λ u l m.
    comes_late most release bound from to u (late u (omega arith) (omega arith))))

module _ {urgency most bound : ℕ → ℕ} {target : ℕ} where
  -- ---- the walk to the left
  pub swept_none : (from first hi : ℕ) → first ≤ hi → Swept urgency most bound target from first hi hi 0 0
  swept_none from first hi l =
      let none : 0 ≡ hi - hi = omega arith in
      record {
        after = l;
        inside = omega arith;
        overlaps = λ u a b. absurd (omega arith);
        edge_is = subst (λ (n : ℕ). 0 ≡ edge_over urgency target most hi n) none (sym (edge_none urgency target most hi));
        largest_is = subst (λ (n : ℕ). 0 ≡ sweep_over urgency target most hi n) none (sym (sweep_none urgency target most hi));
      }

  module _ {from first lo hi edge largest : ℕ} (h : Swept urgency most bound target from first lo hi edge largest) where
    -- one more job on the left
    pub swept_next : (p edge' largest' : ℕ) → lo ≡ suc p → first ≤ p → from < bound p → edge' ≡ opened edge target (urgency p) (most p) → largest' ≡ max largest edge'
        → Swept urgency most bound target from first p hi edge' largest'
    swept_next p edge' largest' e fp ends ee le =
        let more : suc (hi - suc p) ≡ hi - p = omega (arith, h.inside) in
        let old : edge ≡ edge_over urgency target most (suc p) (hi - suc p) = subst (λ (z : ℕ). edge ≡ edge_over urgency target most z (hi - z)) e h.edge_is in
        let big : largest ≡ sweep_over urgency target most (suc p) (hi - suc p) = subst (λ (z : ℕ). largest ≡ sweep_over urgency target most z (hi - z)) e h.largest_is in
        let new : edge' ≡ edge_over urgency target most p (suc (hi - suc p)) = ee ∙ rw old (sym (edge_next urgency target most p (hi - suc p))) in
        record {
          after = fp;
          inside = omega (arith, h.inside);
          overlaps = λ u a b. by_order u p (λ l. subst (λ (z : ℕ). from < bound z) (omega arith) ends) (λ l. h.overlaps u (omega arith) b);
          edge_is = subst (λ (n : ℕ). edge' ≡ edge_over urgency target most p n) more new;
          largest_is = subst (λ (n : ℕ). largest' ≡ sweep_over urgency target most p n) more (omega (arith, le, big, new, sweep_next urgency target most p (hi - suc p)));
        }

    -- the pair's span opens earlier
    pub swept_earlier : (from' : ℕ) → from' ≤ from → Swept urgency most bound target from' first lo hi edge largest
    swept_earlier from' l =
        record { after = h.after; inside = h.inside; overlaps = λ u a b. omega (arith, h.overlaps u a b); edge_is = h.edge_is; largest_is = h.largest_is }

    pub swept_small : (m : ℕ) → ((u : ℕ) → u < hi → most u ≤ m) → edge ≤ (hi - lo) * m
    swept_small m hm = omega (arith, h.edge_is, edge_small urgency target most m lo (hi - lo) (λ u l. hm u (omega (arith, h.inside))))

    -- the walk ends at a job that ends too early, or at the chain's first
    pub whole_here : (p : ℕ) → Climbs bound first hi → lo ≡ suc p → bound p ≤ from → Whole urgency most bound target from first lo hi edge largest
    whole_here p up e early = record { swept = h; passed = λ u a b. omega (arith, up u p a (omega arith) (omega (arith, h.inside))) }

    pub whole_all : lo ≤ first → Whole urgency most bound target from first lo hi edge largest
    whole_all l = record { swept = h; passed = λ u a b. absurd (omega arith) }

  -- then its largest block is that of all jobs up to its end
  pub whole_is : {from first lo hi edge largest : ℕ} → Whole urgency most bound target from first lo hi edge largest → (release : ℕ → ℕ) (to : ℕ) → Released release to first hi
      → largest ≡ largest_over urgency target (counts most release bound from to) first (hi - first)
  whole_is {from} {first} {lo} {hi} whole release to released =
      let h = whole.swept in
      h.largest_is
      ∙ sym
      (sweep_window urgency target (counts most release bound from to) most first lo hi hi h.after h.inside (omega arith)
      (λ u a b. ends_early most release bound from to u (whole.passed u a b))
      (λ u a b. overlaps_whole most release bound from to u (h.overlaps u a b) (released u (omega (arith, h.after)) b))
      (λ u a b. absurd (omega arith)))
