-- ITR ends. A round that changes a bound, after another, keeps a job in some pair that the round before it left out; so there are at most N × N × (N
-- − 1) + 2 rounds, the last changes nothing, and no other number is the first of a round that changes nothing. Assumes nothing.
use Prim.Native.Nat.{ℕ, zero, suc, ◌+◌, ◌*◌, ◌-◌, ◌≤◌, ◌<◌}
use mathlib.Core.Path.{◌≡◌, refl, sym, ap, subst, ◌∙◌}
use mathlib.Core.Logic.{◌≢◌}
use mathlib.Core.Bool.{Bool, true, false, not, cond, ◌&&◌}
use mathlib.Core.List.{List}
use native.Mathlib.Omega.{arith}
use lib.Dec.{eqb}
use lib.Seq.{ext_get_or}
use borrow.Author.Tests.{eqb-false, eq-eqb, ne_eqb}
use Rattle.laws.specs.Words.{sum_below, same_up_to}
use Rattle.laws.proofs.Tests.{by_test, by_order, by_equal, by_last, both_ways, cond_le, cond_one}
use Rattle.laws.proofs.Same.{same_at, same_refl}
use Rattle.laws.proofs.Sums.{sum_mono, sum_eq, sum_const, sum_skip}
use Rattle.laws.proofs.Tabulate.{tabulate_ext}
use Rattle.theory.specs.Table.{Table}
use Rattle.theory.specs.Bounds.{largest_pair, cja_with, cja, itr_start, overlap, round, after, Answer, settle, round_limit, itr}
use Rattle.theory.specs.Claims.{AtMost, Repeats, Settled}
use Rattle.theory.proofs.Rules.{length-after}
use Rattle.theory.proofs.Monotone.{Fewer, pairs_mono, overlap_mono, round_le_cja, rounds_grow}

-- two choices that keep the same jobs give the same round
pub round_by : (t : Table) (a b : List ℕ) → Fewer t (overlap t a) (overlap t b) → Fewer t (overlap t b) (overlap t a) → round t a ≡ round t b
unfolding round cja_with
round_by t a b f g =
    tabulate_ext
    0
    t.count
    (λ j. largest_pair t (overlap t a) j (suc j))
    (λ j. largest_pair t (overlap t b) j (suc j))
    (λ j z l.
    let jl : j < t.count = omega arith in
    omega (
      arith,
      pairs_mono t (overlap t a) (overlap t b) j (λ k u kj c ul. f k j u (omega arith) jl ul),
      pairs_mono t (overlap t b) (overlap t a) j (λ k u kj c ul. g k j u (omega arith) jl ul),
    ))

-- ---- the jobs kept, counted over all pairs
kept : Table → List ℕ → ℕ → ℕ → ℕ → ℕ
kept t b k j u = cond (not (eqb (t.chain u) (t.chain j)) && overlap t b k j u) 1 0

kept_for : Table → List ℕ → ℕ → ℕ → ℕ
kept_for t b k j = sum_below t.count (kept t b k j)

kept_from : Table → List ℕ → ℕ → ℕ
kept_from t b k = sum_below t.count (kept_for t b k)

kept_all : Table → List ℕ → ℕ
kept_all t b = sum_below t.count (kept_from t b)

one_of : (a b : Bool) → ◌≡◌ {A = ℕ} (cond a 1 0) (cond b 1 0) → b ≡ true → a ≡ true
one_of true b e q = refl
one_of false b e q = let z : ◌≡◌ {A = ℕ} 0 1 = subst (λ (x : Bool). ◌≡◌ {A = ℕ} 0 (cond x 1 0)) q e in absurd (omega arith)

module _ (t : Table) where
  kept_most : (b : List ℕ) → kept_all t b ≤ t.count * (t.count * (t.count - 1))
  unfolding kept_all kept_from kept_for kept
  kept_most b =
      sum_const
      t.count
      (t.count * (t.count - 1))
      (kept_from t b)
      (λ k kl.
      sum_const
      t.count
      (t.count - 1)
      (kept_for t b k)
      (λ j jl.
      omega (
        arith,
        sum_skip
            t.count
            (kept t b k j)
            j
            jl
            (rw (eq-eqb (t.chain j) (t.chain j) refl))
            (λ i il. cond_one (not (eqb (t.chain i) (t.chain j)) && overlap t b k j i)),
      )))

  module _ (a b : List ℕ) (h : AtMost t.count a b) where
    kept_mono : (k j u : ℕ) → k < t.count → j < t.count → u < t.count → kept t a k j u ≤ kept t b k j u
    unfolding kept
    kept_mono k j u kl jl ul =
        by_test (eqb (t.chain u) (t.chain j))
        (λ e. rw e (omega arith))
        (λ e. rw e (cond_le (overlap t a k j u) (overlap t b k j u) 1 (overlap_mono t a b h k j u kl jl ul (eqb-false (t.chain u) (t.chain j) e))))

    kept_at : (k j u : ℕ) → t.chain u ≢ t.chain j → kept t a k j u ≡ kept t b k j u → overlap t b k j u ≡ true → overlap t a k j u ≡ true
    unfolding kept
    kept_at k j u ne e = one_of (overlap t a k j u) (overlap t b k j u) (rw (ne_eqb (t.chain u) (t.chain j) ne) at e)

    -- where no more jobs are kept, the same ones are
    kept_same : kept_all t b ≤ kept_all t a → Fewer t (overlap t b) (overlap t a)
    unfolding kept_all kept_from kept_for
    kept_same c k j u kl jl ul ne =
        let n : ℕ = t.count in
        let each : (x y : ℕ) → x < n → y < n → kept_for t a x y ≤ kept_for t b x y
        = (λ x y xl yl. sum_mono n (kept t a x y) (kept t b x y) (λ z zl. kept_mono x y z xl yl zl)) in
        let all : (x : ℕ) → x < n → kept_from t a x ≤ kept_from t b x = (λ x xl. sum_mono n (kept_for t a x) (kept_for t b x) (λ y yl. each x y xl yl)) in
        let from : kept_from t a k ≡ kept_from t b k = sum_eq n (kept_from t a) (kept_from t b) all c k kl in
        let for : kept_for t a k j ≡ kept_for t b k j = sum_eq n (kept_for t a k) (kept_for t b k) (λ y yl. each k y kl yl) (omega (arith, from)) j jl in
        kept_at k j u ne (sum_eq n (kept t a k j) (kept t b k j) (λ z zl. kept_mono k j z kl jl zl) (omega (arith, for)) u ul)

  -- ---- the rounds
  record Ends (answer : Answer) : Type 0 where
    settled : Settled t answer
    limit : answer.rounds ≤ round_limit t

  -- each of the first n rounds changed something
  abbrev Moved : ℕ → Type 0
  Moved n = (m : ℕ) → m < suc n → Repeats t m → ⊥

  same_after : (n : ℕ) → same_up_to t.count (round t (after t n)) (after t n) ≡ true → after t (suc n) ≡ after t n
  same_after n e =
      ext_get_or 0 (after t (suc n)) (after t n) (length-after t (suc n) ∙ sym (length-after t n)) (λ i l.
      unfold after in same_at t.count (round t (after t n)) (after t n) e i (omega (arith, length-after t (suc n))))

  differ_after : (n : ℕ) → same_up_to t.count (round t (after t n)) (after t n) ≡ false → after t (suc n) ≢ after t n
  unfolding after
  differ_after n e q = both_ways (subst (λ (b : List ℕ). same_up_to t.count b (after t n) ≡ true) (sym q) (same_refl t.count (after t n))) e

  moved_none : Moved 0
  moved_none zero l r = r
  moved_none (suc m) l r = omega arith

  moved_more : (n : ℕ) → Moved n → same_up_to t.count (round t (after t n)) (after t n) ≡ false → Moved (suc n)
  moved_more n moved e zero l r = r
  moved_more n moved e (suc m) l r = by_last m n (omega arith) (λ q. differ_after n e (rw q at r)) (λ ml. moved (suc m) (omega arith) r)

  settle_stop : (fuel n : ℕ) (b : List ℕ) → same_up_to t.count (round t b) b ≡ true
      → settle t (suc fuel) n b ≡ record { bounds = round t b; rounds = suc n }
  unfolding settle
  settle_stop fuel n b e = rw (e, settle)

  settle_more : (fuel n : ℕ) (b : List ℕ) → same_up_to t.count (round t b) b ≡ false → settle t (suc fuel) n b ≡ settle t fuel (suc n) (round t b)
  unfolding settle
  settle_more fuel n b e = rw (e, settle)

  stops : (fuel n : ℕ) → suc n ≤ round_limit t → Moved n → same_up_to t.count (round t (after t n)) (after t n) ≡ true
      → Ends (settle t (suc fuel) n (after t n))
  stops fuel n l moved e =
      rw (settle_stop fuel n (after t n) e)
      (record { settled = record { made = unfold after in refl; last = same_after n e; first = λ m ml r. moved m (omega arith) r }; limit = l })

  kept_more : (n : ℕ) → same_up_to t.count (round t (after t (suc n))) (after t (suc n)) ≡ false
      → kept_all t (after t n) < kept_all t (after t (suc n))
  kept_more n e =
      by_order (kept_all t (after t (suc n))) (kept_all t (after t n))
      (λ l.
      absurd
      (differ_after (suc n) e
      (unfold after in
      sym
      (round_by
      t
      (after t n)
      (after t (suc n))
      (overlap_mono t (after t n) (after t (suc n)) (rounds_grow t n))
      (kept_same (after t n) (after t (suc n)) (rounds_grow t n) l)))))
      (λ l. l)

  limit_is : round_limit t ≡ t.count * t.count * (t.count - 1) + 2
  unfolding round_limit
  limit_is = refl

  settles : (fuel n : ℕ) → suc n + fuel ≡ round_limit t → round_limit t ≤ kept_all t (after t n) + fuel + 1 → Moved (suc n)
      → Ends (settle t fuel (suc n) (after t (suc n)))
  unfolding after
  settles zero n e c moved = absurd (omega (arith, limit_is, kept_most (after t n)))
  settles (suc fuel) n e c moved =
      by_test (same_up_to t.count (round t (after t (suc n))) (after t (suc n)))
      (λ q. stops fuel (suc n) (omega arith) moved q)
      (λ q.
      rw (settle_more fuel (suc n) (after t (suc n)) q)
      (settles fuel (suc n) (omega arith) (omega (arith, kept_more n q)) (moved_more (suc n) moved q)))

  begins : (fuel : ℕ) → fuel ≡ round_limit t → Ends (settle t fuel 0 (after t 0))
  unfolding after
  begins zero e = absurd (omega (arith, limit_is))
  begins (suc fuel) e =
      by_test (same_up_to t.count (round t (itr_start t)) (itr_start t))
      (λ q. stops fuel 0 (omega arith) moved_none q)
      (λ q. rw (settle_more fuel 0 (itr_start t) q) (settles fuel 0 (omega arith) (omega arith) (moved_more 0 moved_none q)))

  ends : Ends (itr t)
  unfolding itr after
  ends = begins (round_limit t) refl

  pub itr_settled : Settled t (itr t)
  itr_settled = ends.settled

  pub rounds_limit : (itr t).rounds ≤ round_limit t
  rounds_limit = ends.limit

  -- ---- what settled says of an answer
  module _ (a b : Answer) (ha : Settled t a) (hb : Settled t b) where
    no_fewer : a.rounds < b.rounds → ⊥
    no_fewer l = hb.first a.rounds l ha.last

  pub rounds_same : (a b : Answer) → Settled t a → Settled t b → a.rounds ≡ b.rounds
  rounds_same a b ha hb =
      by_order a.rounds b.rounds
      (λ l. by_equal a.rounds b.rounds (λ e. e) (λ ne. absurd (no_fewer a b ha hb (omega arith))))
      (λ l. absurd (no_fewer b a hb ha l))

  pub settled_unique : (a b : Answer) → Settled t a → Settled t b → a ≡ b
  settled_unique a b ha hb =
      let rounds : a.rounds ≡ b.rounds = rounds_same a b ha hb in
      let bounds : a.bounds ≡ b.bounds = ha.made ∙ ap (after t) rounds ∙ sym hb.made in
      λ i. record { bounds = bounds i; rounds = rounds i }

  repeats_fixed : (n : ℕ) → Repeats t n → round t (after t n) ≡ after t n
  repeats_fixed zero r = absurd r
  repeats_fixed (suc n) r = unfold after in ap (round t) (unfold after in r)

  pub settled_fixed : (a : Answer) → Settled t a → round t a.bounds ≡ a.bounds
  settled_fixed a h = rw h.made (repeats_fixed a.rounds h.last)

  pub itr_fixed : round t (itr t).bounds ≡ (itr t).bounds
  itr_fixed = settled_fixed (itr t) itr_settled

  pub itr_le_cja : AtMost t.count (itr t).bounds (cja t)
  itr_le_cja = subst (λ (b : List ℕ). AtMost t.count b (cja t)) itr_fixed (round_le_cja t (itr t).bounds)
