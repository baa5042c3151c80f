-- `course_of` meets its contract. The loop's invariant: the columns show the first n rows. Assumes nothing.
use Prim.Native.Nat.{◌≤◌}
use Rattle.legality.proofs.Judging.{course_of}
use Rattle.recording.specs.Reading.{rows_of}
use lib.ListN.{take}
use mathlib.Core.Path.{◌≡◌}
use Rattle.recorders.proofs.course.course_of.Given as goal

abbrev pub invariant-loop-n : goal.invariant-loop-n
invariant-loop-n l = (l.n ≤ l.count) × (l.course ≡ course_of (take l.n (rows_of l.recording)))
