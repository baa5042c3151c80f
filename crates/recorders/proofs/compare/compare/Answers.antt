-- `compare` answers `compared_of`. Assumes nothing.
use Rattle.std.proofs.lemmas.Result.{err_from_is_err_and}
use Rattle.recorders.proofs.Comparing.{judged_read, first_refused, second_refused, both_compared}
use Rattle.recorders.proofs.compare.compare.Goals as goal

pub returns-in_err-one : goal.returns-in_err-one
returns-in_err-one c =
    let p = err_from_is_err_and c.from_residual.result c.from_residual.ensures.1 in
    rw (p.1, p.2) (first_refused _ _ _ c.read_recording.ensures _ c.in_err-one.was)

pub returns-in_err-other : goal.returns-in_err-other
returns-in_err-other c =
    let p = err_from_is_err_and c.from_residual-in_err-other.result c.from_residual-in_err-other.ensures.1 in
    rw (p.1, p.2) (second_refused _ _ _ c.read_recording.ensures _ c.in_ok-one.was c.read_recording-2.ensures _ c.in_err-other.was)

pub is_legal-requires : goal.is_legal-requires
is_legal-requires c = judged_read _ _ _ c.read_recording.ensures c.in_ok-one.was

pub is_legal-requires-2 : goal.is_legal-requires-2
is_legal-requires-2 c = judged_read _ _ _ c.read_recording-2.ensures c.in_ok-other.was

pub first_difference-requires : goal.first_difference-requires
first_difference-requires c =
    let one_judged = judged_read _ _ _ c.read_recording.ensures c.in_ok-one.was in
    let other_judged = judged_read _ _ _ c.read_recording-2.ensures c.in_ok-other.was in
    (one_judged.readable.few, other_judged.readable.few)

pub returns : goal.returns
returns c =
    rw (c.is_legal.ensures, c.is_legal-2.ensures, c.first_difference.ensures)
    (both_compared _ _ _ c.read_recording.ensures _ c.in_ok-one.was c.read_recording-2.ensures _ c.in_ok-other.was)
