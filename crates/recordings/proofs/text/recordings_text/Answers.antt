-- `recordings_text` answers `comparison_answer`, and leaves `comparison_left`. Assumes nothing.
use Rattle.std.proofs.lemmas.Result.{err_from_is_err_and}
use Rattle.recordings.proofs.Comparisons.{table_refused, recording_refused, text_written}
use Rattle.recordings.proofs.text.recordings_text.Goals as goal

pub returns-in_err-set : goal.returns-in_err-set
returns-in_err-set c =
    let p = err_from_is_err_and c.from_residual.result c.from_residual.ensures.1 in
    let both = table_refused _ _ _ _ c.read.ensures c.in_err-set.was in
    record { value = rw (p.1, p.2) both.0; out_after = both.1 }

pub returns-in_err-compared : goal.returns-in_err-compared
returns-in_err-compared c =
    let p = err_from_is_err_and c.from_residual-in_err-compared.result c.from_residual-in_err-compared.ensures.1 in
    let both = recording_refused _ _ _ _ c.read.ensures _ c.in_ok-set.was c.compare.ensures c.in_err-compared.was in
    record { value = rw (p.1, p.2) both.0; out_after = both.1 }

pub returns : goal.returns
returns c =
    let answer = c.write_compared.ensures in
    let both = text_written _ _ _ _ c.read.ensures _ c.in_ok-set.was c.compare.ensures _ c.in_ok-compared.was
    (answer.value, answer.out_after) in
    record { value = both.0; out_after = both.1 }
