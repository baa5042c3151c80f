-- `put_bytes` leaves as much of the bytes as fits. The loop's invariant: the first i of them stand there. Assumes nothing.
use Rattle.texts.proofs.Copying.{copying_none, copying_length, copying_room, copying_next, copying_end}
use borrow.Author.Rules.{rules}
use mathlib.Core.Path.{refl}
use native.Mathlib.Omega.{arith}
use Rattle.texts.proofs.bytes.put_bytes.Goals as goal

pub loop-i-init : goal.loop-i-init
loop-i-init c = copying_none _ _ _ _ (omega arith)

pub bounds-bytes-i : goal.bounds-bytes-i
bounds-bytes-i c = (copying_room c.loop-i.invariant c.loop-i-test.true).0

pub overflow_add-out : goal.overflow_add-out
overflow_add-out c = let h = (copying_room c.loop-i.invariant c.loop-i-test.true).1 in search (rules, h)

pub bounds-out-at : goal.bounds-out-at
bounds-out-at c = let h = (copying_room c.loop-i.invariant c.loop-i-test.true).1 in search (rules, h)

pub loop-i-preserved : goal.loop-i-preserved
loop-i-preserved c = copying_next c.loop-i.invariant c.loop-i-test.true

pub shape_of-out : goal.shape_of-out
shape_of-out c = let h = copying_length c.loop-i.invariant in search (rules, h)

pub returns : goal.returns
returns c = (refl, copying_end c.loop-i.invariant c.loop-i-test.false)
