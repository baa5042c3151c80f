-- The definitions give the known legality of each recording and each known difference. Assumes nothing.
--   settled_recording   whether a recording is legal is what the tests of its jobs and rows give
--   known_recordings    the table of recordings is as the definitions have it
--   known_differences   the table of differences is as the definitions have it
use mathlib.Core.Path.{◌≡◌, refl, sym}
use mathlib.Core.Bool.{true}
use mathlib.Core.List.{map}
use Rattle.laws.specs.Words.{every_below, last_of}
use Rattle.std.specs.Prelude.{Ok}
use Rattle.jobs.specs.Checks.{is_next, in_limits, record_check, records_check, check_of}
use Rattle.jobs.specs.Jobs.{urgency_of}
use Rattle.theory.specs.Table.{joined, effective_release, table_of}
use Rattle.recording.specs.Rows.{follows, next_follows, in_order}
use Rattle.legality.specs.Procedure.{total, begin, done, predecessor_done, release_of, ready_from, waits, job_fits, row_fits, rows_fit, recording_fits}
use Rattle.legality.specs.Differences.{first_difference}
use Rattle.legality.proofs.Deciding.{fits_legal}
use Rattle.known_results.specs.Recordings.{KnownRecording, judged_with, recordings, difference_with, differences}
use Rattle.known_results.proofs.Known.{first_and_rest}

settled_recording : (k : KnownRecording) → check_of k.0 ≡ Ok tt → in_order k.1 ≡ true → recording_fits (table_of k.0) k.1 ≡ k.2 → judged_with k ≡ k
unfolding judged_with
settled_recording k passed ordered known = rw (sym (fits_legal k.0 passed k.1 ordered), known)

pub known_recordings : map judged_with recordings ≡ recordings
unfolding urgency_of last_of is_next in_limits record_check records_check check_of joined effective_release every_below follows next_follows in_order total begin done predecessor_done release_of ready_from waits job_fits row_fits rows_fit recording_fits
known_recordings =
    first_and_rest (settled_recording _ refl refl refl)
    (first_and_rest (settled_recording _ refl refl refl)
    (first_and_rest (settled_recording _ refl refl refl)
    (first_and_rest (settled_recording _ refl refl refl)
    (first_and_rest (settled_recording _ refl refl refl)
    (first_and_rest (settled_recording _ refl refl refl) refl)))))

pub known_differences : map difference_with differences ≡ differences
unfolding difference_with first_difference
known_differences = refl
