-- `put_rest` leaves the jobs at their places. The loop's invariant: those up to before place n stand there. Assumes nothing.
use Rattle.numbers.proofs.Written.{put_none, put_room, put_next, put_same, put-end}
use borrow.Author.Rules.{rules}
use mathlib.Core.Path.{refl}
use Rattle.numbers.proofs.set.put_rest.Goals as goal

pub loop-n-init : goal.loop-n-init
loop-n-init c = let h = c.requires in put_none _ _ _ (h.1, h.2)

pub put_job-at-requires : goal.put_job-at-requires
put_job-at-requires c = put_room _ _ c.loop-n.invariant c.loop-n-test.true

pub loop-n-preserved : goal.loop-n-preserved
loop-n-preserved c = put_next _ _ c.loop-n.invariant _ _ _ c.loop-n-test.true refl c.put_job-at.ensures

pub shape_of-out : goal.shape_of-out
shape_of-out c = let h = put_same _ _ c.loop-n.invariant in search (rules, h)

pub returns : goal.returns
returns c = put-end _ _ c.loop-n.invariant c.loop-n-test.false
