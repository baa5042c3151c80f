-- `taken_block` answers `taken_block`. The loop's invariant: no block before the open one is taken. Assumes nothing.
use Prim.Native.Nat.{ℕ, ◌+◌, ◌≤◌, ◌<◌}
use Rattle.completion.proofs.Counting.{lent_by, counts, counts_limit}
use Rattle.completion.proofs.Naming.{named_none}
use Rattle.completion.specs.Delays.{block_named}
use Rattle.jobs.specs.Limits.{max_time}
use Rattle.laws.proofs.Tests.{and_left, and_right}
use Rattle.laws.specs.Words.{number_at}
use Rattle.theory.proofs.Scans.{start_next, Scanned, largest-test, largest_fails, ends_fails, largest_stretch, scanned_none, scanned_small, scanned-next, scanned_found, scanned_all}
use Rattle.theory.proofs.Stretches.{opened}
use Rattle.theory.specs.Bounds.{largest_block}
use Rattle.theory.specs.Delays.{Block as TheoryBlock, no_block as theory_no_block, taken_block}
use borrow.Author.Tests.{ltb-true}
use lib.Dec.{ltb, eqb}
use mathlib.Core.Bool.{Bool, true, false, ◌&&◌}
use mathlib.Core.Path.{◌≡◌, sym, ap, ap₂, ◌∙◌}
use native.Mathlib.Omega.{arith}
use Rattle.completion.proofs.taken.taken_block.Goals.{After-largest_block-largest, At-loop-i, Start, Then-ends_largest, Then-is_largest}
use Rattle.completion.proofs.taken.taken_block.Goals as goal

-- what each job counts
abbrev counted : Start → ℕ → ℕ
counted c = counts c.args.table.now c.args.bound.now c.args.target

-- the largest sum of the chain
largest_is : (c : After-largest_block-largest)
    → let t = c.args.table.now in
    c.largest_block-largest.result ≡ largest_block (lent_by t) ((lent_by t).chain c.args.first) c.args.target.urgency (counted c.before) t.count
largest_is c =
    let a = c.args in
    let t = a.table.now in
    c.largest_block-largest.ensures ∙ sym (largest_stretch (lent_by t) t.fit.ordered a.target.urgency (counted c.before) a.first a.end c.requires.0 c.requires.2 c.requires.1)

-- the numbers of the jobs
abbrev number : Start → ℕ → ℕ
number s = number_at s.args.numbers.now

-- what the tests at the loop's head and behind the loop show
module _ (l : At-loop-i) where
  abbrev s : Start
  s = l.before.before

  abbrev largest : ℕ
  largest = l.largest_block-largest.result

  abbrev taken : TheoryBlock
  taken = let t = lent_by l.args.table.now in taken_block t (t.chain l.args.first) l.args.target.urgency (counted s)

  abbrev tested : Bool
  tested = ltb l.loop-i.start l.loop-i.i && eqb l.loop-i.sum largest

  found : let t = lent_by l.args.table.now in
      l.loop-i.start < l.loop-i.i → l.loop-i.sum ≡ largest → (l.loop-i.i < l.args.end → t.urgency l.loop-i.i < l.args.target.urgency) → taken ≡ record { first = l.loop-i.start; end = l.loop-i.i }
  found some sum stops =
      let t = l.args.table.now in
      scanned_found (lent_by t) t.fit.ordered l.args.target.urgency (counted s) l.args.first l.args.end l.requires.0 l.requires.2 l.requires.1 l.loop-i.invariant some (sum ∙ largest_is l.before) stops

  found_none : l.args.end ≤ l.loop-i.i → (l.loop-i.start < l.loop-i.i → l.loop-i.sum ≡ largest → ⊥) → taken ≡ theory_no_block
  found_none all other =
      let t = l.args.table.now in
      scanned_all (lent_by t) t.fit.ordered l.args.target.urgency (counted s) l.args.first l.args.end l.requires.0 l.requires.2 l.requires.1 l.loop-i.invariant all (λ some sum. other some (sum ∙ sym (largest_is l.before)))

  more : let t = lent_by l.args.table.now in
      l.loop-i.i < l.args.end → (l.loop-i.start < l.loop-i.i → l.loop-i.sum ≡ largest → t.urgency l.loop-i.i < l.args.target.urgency → ⊥) → (start sum : ℕ)
      → start ≡ start_next l.loop-i.start l.args.target.urgency (t.urgency l.loop-i.i) l.loop-i.i → sum ≡ opened l.loop-i.sum l.args.target.urgency (t.urgency l.loop-i.i) (counted s l.loop-i.i)
      → Scanned t (t.chain l.args.first) l.args.target.urgency (counted s) l.args.first l.args.end (l.loop-i.i + 1) start sum
  more il other start sum es eb =
      let t = l.args.table.now in
      scanned-next (lent_by t) t.fit.ordered l.args.target.urgency (counted s) l.args.first l.args.end l.requires.0 l.requires.2 l.requires.1 l.loop-i.invariant il (λ some q. other some (q ∙ sym (largest_is l.before))) start sum es eb

-- the open block is one with the largest sum, which the job at hand ends
ended : (c : Then-ends_largest)
    → let l = c.before.before.before.before in
    (l.loop-i.start < l.loop-i.i) × (taken l ≡ record { first = l.loop-i.start; end = l.loop-i.i })
ended c =
    let l = c.before.before.before.before in
    let target = l.args.target.urgency in
    let urgency = c.urgency-urgency.result in
    let tests : ltb urgency target && tested l ≡ true = sym c.ends_largest.ensures ∙ c.if-ends_largest.true in
    let some = largest-test {start = l.loop-i.start} {i = l.loop-i.i} (and_right (ltb urgency target) (tested l) tests) in
    let low : urgency < target = ltb-true _ _ (and_left (ltb urgency target) (tested l) tests) in
    (some.0, found l some.0 some.1 (λ il. omega (arith, c.urgency-urgency.ensures, low)))

-- behind the last job the open block is one with the largest sum
ended_last : (c : Then-is_largest)
    → let l = c.before.before.before in
    let end = l.args.end in
    (l.loop-i.start < end) × (taken l ≡ record { first = l.loop-i.start; end = end })
ended_last c =
    let l = c.before.before.before in
    let end : l.loop-i.i ≡ l.args.end = omega (arith, c.loop-i-test.false, l.loop-i.invariant.inside) in
    let some = largest-test {start = l.loop-i.start} {i = l.args.end} (sym c.is_largest.ensures ∙ c.if-is_largest.true) in
    (some.0, found l (omega (arith, end, some.0)) some.1 (λ il. absurd (omega arith)) ∙ ap (λ (e : ℕ). record { first = l.loop-i.start; end = e }) end)

pub loop-i-init : goal.loop-i-init
loop-i-init c =
    let a = c.args in
    let t = a.table.now in
    scanned_none (lent_by t) t.fit.ordered a.target.urgency (counted c.before) a.first a.end c.requires.0 c.requires.2 c.requires.1

pub returns-then-ends_largest : goal.returns-then-ends_largest
returns-then-ends_largest c =
    let l = c.before.before.before.before.before in
    c.named.ensures ∙ ap (block_named (number (s l))) (sym (ended c.before).1)

pub opened-sum-requires : goal.opened-sum-requires
opened-sum-requires c =
    let l = c.before.before.before.before.before in
    let a = c.args in
    let t = a.table.now in
    let limit = counts_limit t a.bound.now a.target in
    let small = scanned_small (lent_by t) t.fit.ordered a.target.urgency (counted (s l)) a.first a.end c.requires.0 c.requires.2 c.requires.1 l.loop-i.invariant max_time (λ i h. limit i (omega (arith, c.requires.2.within))) in
    omega (arith, t.fit.few, c.requires.2.within, small, limit l.loop-i.i (omega (arith, c.loop-i-test.true, c.requires.2.within)), c.counted-counts.ensures)

pub loop-i-preserved : goal.loop-i-preserved
loop-i-preserved c =
    let l = c.before.before.before.before.before.before.before in
    let target = c.args.target.urgency in
    let urgency = c.urgency-urgency.result in
    let is = c.urgency-urgency.ensures in
    let tests : ltb urgency target && tested l ≡ false = sym c.ends_largest.ensures ∙ c.if-ends_largest.false in
    more l c.loop-i-test.true
    (λ some sum low. ends_fails {urgency = urgency} {target = target} tests some sum (omega (arith, is, low))) _ _
    (c.start_next-start.ensures ∙ ap (λ (u : ℕ). start_next l.loop-i.start target u l.loop-i.i) is)
    (c.opened-sum.ensures ∙ ap₂ (opened l.loop-i.sum target) is c.counted-counts.ensures)

pub returns-then-is_largest : goal.returns-then-is_largest
returns-then-is_largest c = c.named-then-is_largest.ensures ∙ ap (block_named (number (s c.before.before.before.before))) (sym (ended_last c.before).1)

pub returns : goal.returns
returns c =
    let l = c.before.before.before.before in
    let end : l.loop-i.i ≡ c.args.end = omega (arith, c.loop-i-test.false, l.loop-i.invariant.inside) in
    let nothing : taken l ≡ theory_no_block
    = found_none l (omega arith) (λ some sum. largest_fails {start = l.loop-i.start} {i = c.args.end} (sym c.is_largest.ensures ∙ c.if-is_largest.false) (omega arith) sum) in
    c.none.ensures ∙ sym (ap (block_named (number (s l))) nothing ∙ named_none (number (s l)))
