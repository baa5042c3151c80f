-- `sweep_round` answers the theory's. The loop's invariant: the bounds of the first j jobs stand in the array, the first place of the last job's chain is at
-- hand, and what a sweep is lent is ready. Assumes nothing.
use Prim.Native.Nat.{ℕ}
use Rattle.completion.proofs.Counting.{lent_by}
use Rattle.theory.proofs.OwnChains.{HeadOf, heading_none, heading_within, heading_on, heading_next}
use Rattle.theory.proofs.Pairs.{round_at}
use Rattle.theory.proofs.Prior.{prior_none, prior-next}
use Rattle.theory.proofs.Refilling.{refilled_none, refilled_next, refilled_all}
use Rattle.theory.specs.Bounds.{cja_with, round}
use lib.Dec.{eqb}
use mathlib.Core.Bool.{cond}
use mathlib.Core.Path.{sym, ap, ◌∙◌}
use native.Mathlib.Omega.{arith}
use Rattle.completion.proofs.round.sweep_round.Goals.{After-first_of-own}
use Rattle.completion.proofs.round.sweep_round.Goals as goal

-- the first place of the chain of the job at hand
heads : (c : After-first_of-own) → HeadOf (lent_by c.args.table.now).chain c.first_of-own.result c.loop-j.j
heads c =
    let t = lent_by c.args.table.now in
    let at = c.loop-j in
    heading_next t c.args.table.now.fit.ordered at.own at.j c.loop-j-test.true at.invariant.3 c.first_of-own.result
    (c.first_of-own.ensures.0
    ∙ ap (λ (z : ℕ). cond (eqb at.last z) at.own at.j) c.chain-chain.ensures
    ∙ ap (λ (z : ℕ). cond (eqb z (t.chain at.j)) at.own at.j) at.invariant.2)

pub loop-j-init : goal.loop-j-init
loop-j-init c =
    let t = lent_by c.args.table.now in
    (omega arith, refilled_none (round_at t c.args.bound.now) c.requires.2, sym (prior_none t.chain), heading_none t.chain, c.requires.1)

pub first_of-own-requires : goal.first_of-own-requires
first_of-own-requires c = heading_within c.loop-j.invariant.3

pub largest_swept-requires : goal.largest_swept-requires
largest_swept-requires c =
    let t = c.args.table.now in
    (record { table = record { fit = t.fit; ended = t.ended; rises = c.requires.0 }; inside = c.loop-j-test.true; mine = heads c.before }, c.loop-j.invariant.4)

pub loop-j-preserved : goal.loop-j-preserved
loop-j-preserved c =
    let t = c.args.table.now in
    let at = c.loop-j in
    let h = c.loop-j-test.true in (
      omega (arith, h),
      refilled_next (round_at (lent_by t) c.args.bound.now) t.fit.few at.invariant.1 _ h c.largest_swept.ensures.0,
      c.chain-chain.ensures ∙ sym (prior-next (lent_by t).chain at.j),
      heading_on (heads c.before.before.before),
      c.largest_swept.ensures.1,
    )

pub returns : goal.returns
unfolding round cja_with
returns c =
    let t = c.args.table.now in
    let at = c.loop-j in
    (refilled_all (round_at (lent_by t) c.args.bound.now) t.fit.few at.invariant.1 (omega (arith, c.loop-j-test.false)), at.invariant.4)
