-- `put_bytes` leaves as much of the bytes as fits. The loop's invariant: the first i of them stand there. Assumes nothing.
use Rattle.texts.proofs.Copying.{Copying}
use Rattle.texts.proofs.bytes.put_bytes.Given as goal

abbrev pub invariant-loop-i : goal.invariant-loop-i
invariant-loop-i l = Copying l.bytes l.initial.out l.at l.count l.out l.i
