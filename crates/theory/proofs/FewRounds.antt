-- ITR makes at most as many rounds as there are jobs, and one for an empty table. A round only asks whether releases lie before bounds. Where all
-- lower releases are settled, one more round settles a release, and the two lowest are settled from the start. Assumes a well-formed table.
use Prim.Native.Nat.{ℕ, zero, suc, ◌+◌, ◌-◌, ◌≤◌, ◌<◌, max}
use mathlib.Core.Path.{◌≡◌, sym, ap, subst, ◌∙◌}
use mathlib.Core.Logic.{◌≢◌}
use mathlib.Core.Bool.{true, cond}
use native.Mathlib.Omega.{arith}
use native.Mathlib.Nat.{zero-add, add-zero, add-suc}
use lib.Dec.{ltb}
use lib.Seq.{ext_get_or}
use borrow.Author.Tests.{ltb-true, lt-ltb, le-ltb}
use Rattle.laws.specs.Words.{sum_below, number_at}
use Rattle.laws.proofs.Tests.{by_order, by_last, never_true, cond_le, cond_one}
use Rattle.laws.proofs.Sums.{sum_eq, sum_two, sum_skip}
use Rattle.theory.specs.Table.{Table}
use Rattle.theory.specs.Bounds.{ert_rule, demand, lowest, pair_bound, largest_pair, overlap, after, itr}
use Rattle.theory.specs.Claims.{Repeats}
use Rattle.theory.proofs.WellFormed.{Ordered, WellFormed, chain_between}
use Rattle.theory.proofs.Rules.{counted, ert-next, ert_own, demand_one, demand_more, demand_own, pairs_least, pair_below, at_start, at_round, length-after}
use Rattle.theory.proofs.Interference.{interference_none}
use Rattle.theory.proofs.Overlaps.{overlap-left, overlap_right, overlap_by}
use Rattle.theory.proofs.Monotone.{Fewer, pairs_mono, overlap_mono, rounds_grow}
use Rattle.theory.proofs.Settling.{round_by, itr_settled}

-- the bound of x after n rounds
abbrev bound_after : Table → ℕ → ℕ → ℕ
bound_after t n x = number_at (after t n) x

bounds_grow : (t : Table) (n d x : ℕ) → x < t.count → bound_after t n x ≤ bound_after t (n + d) x
bounds_grow t n zero x l = rw (add-zero n) (omega arith)
bounds_grow t n (suc d) x l = rw (add-suc n d) (omega (arith, bounds_grow t n d x l, rounds_grow t (n + d) x l))

module _ (t : Table) (o : Ordered t) where
  -- the start is what each pair takes without interference, or more
  start_above : (k j : ℕ) → k ≤ j → j < t.count → t.chain k ≡ t.chain j → t.latest k + demand t k j ≤ ert_rule t (λ i. 0) j
  start_above k zero kj jl c =
      let e : k ≡ 0 = omega arith in
      rw e (omega (arith, demand_one t 0, ert_own t (λ i. 0) 0))
  start_above k (suc j) kj jl c =
      by_last k (suc j) (omega arith)
      (λ e. rw e (omega (arith, demand_one t (suc j), ert_own t (λ i. 0) (suc j))))
      (λ l.
      let same : t.chain j ≡ t.chain (suc j) = chain_between t o k j (suc j) (omega arith) (omega arith) jl c in
      omega (
        arith,
        start_above k j (omega arith) (omega arith) (c ∙ sym same),
        demand_more t k j (omega arith),
        ert-next t (λ i. 0) j same,
      ))

  -- where no job of another chain counts, a round gives at most what the start gave
  alone : (n x : ℕ) → x < t.count → ((k u : ℕ) → k ≤ x → u < t.count → t.chain u ≢ t.chain x → overlap t (after t n) k x u ≡ true → ⊥)
      → bound_after t (suc n) x ≤ bound_after t 0 x
  alone n x xl none =
      rw (at_round t n x xl, at_start t x xl)
      (pairs_least t (overlap t (after t n)) x (ert_rule t (λ i. 0) x) (suc x) (λ k kl c.
      omega (arith, start_above k x (omega arith) xl c, pair k kl)))
    where
      pair : (k : ℕ) → k < suc x → pair_bound t (overlap t (after t n)) k x ≤ t.latest k + demand t k x
      pair k kl =
          unfold pair_bound in omega (
            arith,
            interference_none
                t
                (t.chain x)
                (lowest t k x)
                (counted t (overlap t (after t n)) k x)
                (λ u ul ne. rw (never_true (overlap t (after t n) k x u) (none k u (omega arith) ul ne))),
          )

module _ (t : Table) (well : WellFormed t) where
  -- every bound is beyond its job's release, and after a round beyond that of each earlier job of its chain
  beyond : (n x : ℕ) → x < t.count → t.earliest x < bound_after t n x
  beyond n x l =
      let start : bound_after t 0 x ≤ bound_after t n x = subst (λ (z : ℕ). bound_after t 0 x ≤ bound_after t z x) (zero-add n) (bounds_grow t 0 n x l) in
      omega (arith, at_start t x l, ert_own t (λ i. 0) x, well.positive x l, well.range x l, well.releases x l)

  reach : (n k x : ℕ) → k ≤ x → x < t.count → t.chain k ≡ t.chain x → t.earliest k < bound_after t (suc n) x
  reach n k x kx l c =
      omega (
        arith,
        at_round t n x l,
        pair_below t (overlap t (after t n)) k x (suc x) (omega arith) c,
        own,
        well.positive x l,
        well.range x l,
        well.releases k (omega arith),
      )
    where
      own : t.latest k + t.most x ≤ pair_bound t (overlap t (after t n)) k x
      own = unfold pair_bound in omega (arith, demand_own t k x)

  -- no round after n brings a bound beyond r that was not
  abbrev SettledAt : ℕ → ℕ → Type 0
  SettledAt r n = (x d : ℕ) → x < t.count → r < bound_after t (n + d) x → r < bound_after t n x

  settled_next : (r n : ℕ) → ((i : ℕ) → i < t.count → t.earliest i < r → SettledAt (t.earliest i) n) → SettledAt r (suc n)
  settled_next r n below x zero l h = subst (λ (z : ℕ). r < bound_after t z x) (add-zero (suc n)) h
  settled_next r n below x (suc d) l h =
      let m : ℕ = suc n + d in
      let e : suc n + suc d ≡ suc m = add-suc (suc n) d in
      let e' : m ≡ n + suc d = omega arith in
      by_order (bound_after t m x) r
      (λ low.
      by_order (bound_after t (suc n) x) r
      (λ old.
      let now : r < bound_after t (suc m) x = subst (λ (y : ℕ). r < bound_after t y x) e h in
      let fewer : largest_pair t (overlap t (after t m)) x (suc x) ≤ largest_pair t (overlap t (after t n)) x (suc x)
      = pairs_mono t (overlap t (after t m)) (overlap t (after t n)) x (λ k u kx c ul ne v.
      let kr : t.earliest k < r = omega (arith, reach n k x kx l c) in
      let ur : t.earliest u < bound_after t m x = overlap_right t (after t m) k x u v in
      overlap_by
      t
      (after t n)
      k
      x
      u
      (below k (omega arith) kr u (suc d) ul (subst (λ (y : ℕ). t.earliest k < bound_after t y u) e' (overlap-left t (after t m) k x u v)))
      (below u ul (omega arith) x (suc d) l (subst (λ (y : ℕ). t.earliest u < bound_after t y x) e' ur))) in
      absurd (omega (arith, at_round t m x l, at_round t n x l)))
      (λ old. old))
      (λ high. settled_next r n below x d l high)

  -- ---- the rank of a release: how many jobs have a lower one
  lower : ℕ → ℕ → ℕ
  lower r i = cond (ltb (t.earliest i) r) 1 0

  rank : ℕ → ℕ
  rank r = sum_below t.count (lower r)

  lower_self : (i : ℕ) → lower (t.earliest i) i ≡ 0
  unfolding lower
  lower_self i = rw (le-ltb (t.earliest i) (t.earliest i) (omega arith))

  lower_one : (r i : ℕ) → t.earliest i < r → lower r i ≡ 1
  unfolding lower
  lower_one r i l = rw (lt-ltb (t.earliest i) r l)

  rank_less : (i r : ℕ) → i < t.count → t.earliest i < r → rank (t.earliest i) < rank r
  unfolding rank lower
  rank_less i r il l =
      by_order (rank r) (rank (t.earliest i))
      (λ q.
      let same : lower (t.earliest i) i ≡ lower r i
      = sum_eq
      t.count
      (lower (t.earliest i))
      (lower r)
      (λ x xl.
      cond_le (ltb (t.earliest x) (t.earliest i)) (ltb (t.earliest x) r) 1 (λ b.
      lt-ltb (t.earliest x) r (omega (arith, ltb-true (t.earliest x) (t.earliest i) b))))
      q
      i
      il in
      absurd (omega (arith, lower_self i, lower_one r i l)))
      (λ q. q)

  rank_most : (i : ℕ) → i < t.count → rank (t.earliest i) + 1 ≤ t.count
  unfolding rank lower
  rank_most i l = sum_skip t.count (lower (t.earliest i)) i l (lower_self i) (λ x xl. cond_one (ltb (t.earliest x) (t.earliest i)))

  -- two different jobs below r
  rank_two : (r i k : ℕ) → i < t.count → k < t.count → i ≢ k → t.earliest i < r → t.earliest k < r → 2 ≤ rank r
  unfolding rank
  rank_two r i k il kl ne li lk =
      let one : lower r i ≡ 1 = lower_one r i li in
      let two : lower r k ≡ 1 = lower_one r k lk in
      by_order i k
      (λ l. omega (arith, sum_two t.count (lower r) i k (omega arith) kl))
      (λ l. omega (arith, sum_two t.count (lower r) k i l il))

  settled_first : (i : ℕ) → i < t.count → rank (t.earliest i) ≤ 1 → SettledAt (t.earliest i) 0
  settled_first i il rk x zero xl h = subst (λ (z : ℕ). t.earliest i < bound_after t z x) (add-zero 0) h
  settled_first i il rk x (suc d) xl h =
      let r : ℕ = t.earliest i in
      by_order r (t.earliest x)
      (λ l. omega (arith, beyond 0 x xl))
      (λ l.
      by_order (bound_after t d x) r
      (λ old.
      let now : r < bound_after t (suc d) x = subst (λ (y : ℕ). r < bound_after t y x) (zero-add (suc d)) h in
      omega (
        arith,
        alone t well.ordered d x xl (λ k u kx ul ne v.
            let before : t.earliest u < bound_after t d x = overlap_right t (after t d) k x u v in
            omega (arith, rank_two r x u xl ul (λ w. ne (ap t.chain (sym w))) l (omega arith))),
      ))
      (λ high. settled_first i il rk x d xl (subst (λ (y : ℕ). r < bound_after t y x) (sym (zero-add d)) high)))

  settled_by : (n i : ℕ) → i < t.count → rank (t.earliest i) ≤ suc n → SettledAt (t.earliest i) n
  settled_by zero i il l x d xl h = settled_first i il l x d xl h
  settled_by (suc n) i il l x d xl h =
      settled_next (t.earliest i) n (λ k kl less. settled_by n k kl (omega (arith, rank_less k (t.earliest i) kl less))) x d xl h

  -- ---- all are settled, so that the next two rounds agree
  settled_fewer : (n : ℕ) → t.count ≤ suc (suc n) → Fewer t (overlap t (after t (suc n))) (overlap t (after t n))
  settled_fewer n c k j u kl jl ul ne v =
      let e : suc n ≡ n + 1 = omega arith in
      overlap_by
      t
      (after t n)
      k
      j
      u
      (settled_by n k kl (omega (arith, rank_most k kl)) u 1 ul (subst (λ (y : ℕ). t.earliest k < bound_after t y u) e (overlap-left t (after t (suc n)) k j u v)))
      (settled_by n u ul (omega (arith, rank_most u ul)) j 1 jl (subst (λ (y : ℕ). t.earliest u < bound_after t y j) e (overlap_right t (after t (suc n)) k j u v)))

  many_repeat : (n : ℕ) → t.count ≤ suc (suc n) → Repeats t (suc (suc n))
  many_repeat n c =
      unfold after in
      sym (round_by t (after t n) (after t (suc n)) (overlap_mono t (after t n) (after t (suc n)) (rounds_grow t n)) (settled_fewer n c))

  -- with one job, or none, the first round agrees with the start
  few_repeat : t.count ≤ 1 → Repeats t 1
  few_repeat c =
      ext_get_or 0 (after t 1) (after t 0) (length-after t 1 ∙ sym (length-after t 0)) (λ j l.
      let jl : j < t.count = omega (arith, length-after t 1) in
      omega (
        arith,
        alone t well.ordered 0 j jl (λ k u kx ul ne v. let same : u ≡ j = omega arith in ne (ap t.chain same)),
        rounds_grow t 0 j jl,
      ))

  pub rounds_few : (itr t).rounds ≤ max 1 t.count
  rounds_few =
      by_order (itr t).rounds (max 1 t.count)
      (λ l. l)
      (λ more.
      by_order t.count 1
      (λ few. absurd ((itr_settled t).first 1 (omega arith) (few_repeat few)))
      (λ many.
      let e : suc (suc (t.count - 2)) ≡ t.count = omega arith in
      absurd ((itr_settled t).first (suc (suc (t.count - 2))) (omega arith) (many_repeat (t.count - 2) (omega arith)))))
