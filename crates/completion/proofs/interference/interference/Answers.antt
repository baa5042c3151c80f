-- `interference` answers the theory's. The loop's invariant: the shares of the chains before place i are added up. Assumes nothing.
use Prim.Native.Nat.{◌+◌, ◌<◌}
use Rattle.completion.proofs.Counting.{lent_by, counts, counts_limit}
use Rattle.jobs.specs.Limits.{max_time}
use Rattle.theory.proofs.Columns.{figure}
use Rattle.theory.proofs.Endings.{EndsAt}
use Rattle.theory.proofs.Shares.{Shared, shared_none, shared_next, shared_all}
use borrow.Author.Rules.{rules}
use mathlib.Core.Path.{◌∙◌}
use native.Mathlib.Omega.{arith}
use Rattle.completion.proofs.interference.interference.Goals.{After-share-total, At-loop-i}
use Rattle.completion.proofs.interference.interference.Goals as goal

-- the chain at the loop's head ends where its first place says
chain-ends : (c : At-loop-i) → let t = c.args.table.now in c.loop-i.i < t.count → EndsAt t.count (lent_by t).chain c.loop-i.i (figure t.columns 5 c.loop-i.i)
chain-ends c h = c.args.table.now.ended c.loop-i.i h (c.loop-i.invariant.first h)

-- the shares with that of the chain at hand
shared : (c : After-share-total)
    → let t = c.args.table.now in
    let target = c.args.target in
    Shared (lent_by t) target.chain target.urgency (counts t c.args.bound.now target) max_time (figure t.columns 5 c.loop-i.i) (c.loop-i.total + c.share-total.result)
shared c =
    let t = c.args.table.now in
    let target = c.args.target in
    let h = c.loop-i-test.true in
    let ends = chain-ends c.before.before.before h in
    shared_next (lent_by t) target.chain target.urgency (counts t c.args.bound.now target) max_time t.fit.ordered c.loop-i.i (figure t.columns 5 c.loop-i.i) h ends c.loop-i.total c.loop-i.invariant
    (λ u l. counts_limit t c.args.bound.now target u (omega (arith, ends.within))) c.share-total.result (c.share-total.ensures ∙ rw c.end-end.ensures)

pub loop-i-init : goal.loop-i-init
loop-i-init c = let a = c.args in shared_none (lent_by a.table.now) a.target.chain a.target.urgency (counts a.table.now a.bound.now a.target) max_time

pub overflow_add-total : goal.overflow_add-total
overflow_add-total c = search (rules, (shared c).small, (shared c).inside, c.args.table.now.fit.few)

pub loop-i-preserved : goal.loop-i-preserved
loop-i-preserved c = rw c.end-end.ensures (shared c)

pub returns : goal.returns
returns c =
    let a = c.args in
    let l = c.loop-i in
    shared_all (lent_by a.table.now) a.target.chain a.target.urgency (counts a.table.now a.bound.now a.target) max_time l.i l.total (omega (arith, c.loop-i-test.false)) l.invariant
