-- `largest_swept` answers `largest_pair`, and what it carries is ready again. The loop's invariant: the pairs from k on are behind it, their figures
-- cleared. Assumes nothing.
use Prim.Native.Nat.{ℕ, ◌*◌, ◌-◌, ◌≤◌, ◌<◌}
use Rattle.jobs.specs.Limits.{max_time}
use Rattle.theory.proofs.SweptPairs.{pairing_none, pairing_small, pairing_next, pairing_all, pairing_clear}
use borrow.Author.Rules.{rules}
use lib.ListN.{get_or}
use mathlib.Core.Path.{◌∙◌}
use native.Mathlib.Numerals.{add-one}
use native.Mathlib.Omega.{arith}
use Rattle.completion.proofs.pair.largest_swept.Goals as goal

pub loop-k-init : goal.loop-k-init
loop-k-init c = (rw add-one (pairing_none c.requires.0 c.sweep_chains.ensures.0), c.sweep_chains.ensures.1)

pub overflow_add-latest-in-loop-k : goal.overflow_add-latest-in-loop-k
overflow_add-latest-in-loop-k c =
    let fit = c.args.table.now.fit in
    let p : ℕ = c.loop-k.k - 1 in
    let inside : p < c.args.table.now.count = omega (arith, c.requires.0.inside) in
    let small : get_or c.loop-k.carried.delay p 0 ≤ c.args.table.now.count * max_time
    = pairing_small c.requires.0 c.sweep_chains.ensures.0 c.loop-k.invariant.0 (omega arith) (omega arith) in
    search (rules, fit.mosts p inside, fit.late p inside, c.loop-k.invariant.0.walked.small, fit.few, c.requires.0.inside, small)

pub loop-k-preserved : goal.loop-k-preserved
loop-k-preserved c =
    let most = c.most-sum.ensures in (
      rw most (pairing_next c.requires.0 c.sweep_chains.ensures.0 c.loop-k.invariant.0 (omega arith) (omega arith) _ (c.max-best.ensures ∙ rw (c.latest.ensures, most))),
      c.loop-k.invariant.1,
    )

pub returns : goal.returns
returns c =
    let able = c.requires.0 in
    let h = c.loop-k.invariant.0 in
    let left : c.loop-k.k ≤ c.args.own = c.loop-k-test.false in (
      pairing_all able c.sweep_chains.ensures.0 h left,
      record { counted = c.loop-k.invariant.1; room = h.room; clear = pairing_clear able c.sweep_chains.ensures.0 h left },
    )
