-- Recordings whose legality is known, worked out by hand from document 02, R-5: the runs of P2 and P3, equals by turns, and faulty ones.
-- Assumes nothing.
use Rattle.std.specs.Prelude.{Option, None, Some, ℕ, Bool, true, false, List, [], ◌∷◌}
use Rattle.jobs.specs.declared.job.Job.{Job}
use Rattle.theory.specs.Table.{table_of}
use Rattle.recording.specs.{declared.row.Row.Row, Rows.row}
use Rattle.legality.specs.{Legality.legal, Differences.first_difference}
use Rattle.known_results.specs.Cases.{jobs_in, p1, p5}

-- Jobs, rows by the places of jobs, and whether these are legal.
abbrev pub KnownRecording : Type 0
KnownRecording = List Job × List Row × Bool

-- The same, by the definitions.
unfoldable pub judged_with : KnownRecording → KnownRecording
judged_with k = (k.0, k.1, legal (table_of k.0) k.1)

-- The rows of P2 and of P3.
abbrev pub p2_rows : List Row
p2_rows = row 0 0 30 ∷ row 4 30 40 ∷ row 0 40 50 ∷ row 1 50 60 ∷ row 5 60 110 ∷ row 2 110 160 ∷ row 3 160 245 ∷ []

abbrev pub p3_rows : List Row
p3_rows = row 0 0 30 ∷ row 1 30 40 ∷ row 4 40 50 ∷ row 5 60 110 ∷ row 2 110 160 ∷ row 3 160 245 ∷ []

-- P3 with its last job a tick late, so that the core is idle with a job ready.
abbrev pub idle_rows : List Row
idle_rows = row 0 0 30 ∷ row 1 30 40 ∷ row 4 40 50 ∷ row 5 60 110 ∷ row 2 110 160 ∷ row 3 161 246 ∷ []

-- The first job of P1 goes on while one of higher priority is ready.
abbrev pub lower_rows : List Row
lower_rows = row 0 0 40 ∷ row 4 40 50 ∷ row 1 50 60 ∷ row 5 60 110 ∷ row 2 110 160 ∷ row 3 160 245 ∷ []

-- P3 without its last job.
abbrev pub short_rows : List Row
short_rows = row 0 0 30 ∷ row 1 30 40 ∷ row 4 40 50 ∷ row 5 60 110 ∷ row 2 110 160 ∷ []

-- The equals of P5 by turns.
abbrev pub turn_rows : List Row
turn_rows = row 1 0 1 ∷ row 0 1 3 ∷ row 1 3 6 ∷ row 0 6 8 ∷ []

-- The table of recordings.
abbrev pub recordings : List KnownRecording
recordings =
    (jobs_in p1, p2_rows, true)
    ∷ (jobs_in p1, p3_rows, true)
    ∷ (jobs_in p1, idle_rows, false)
    ∷ (jobs_in p1, lower_rows, false)
    ∷ (jobs_in p1, short_rows, false)
    ∷ (jobs_in p5, turn_rows, true)
    ∷ []

-- Two recordings and where they first differ.
abbrev pub KnownDifference : Type 0
KnownDifference = List Row × List Row × Option ℕ

-- The same, by the definitions.
unfoldable pub difference_with : KnownDifference → KnownDifference
difference_with k = (k.0, k.1, first_difference k.0 k.1)

-- The table of differences: by work, by idleness, behind the last row, and none.
abbrev pub differences : List KnownDifference
differences = (p2_rows, p3_rows, Some 30) ∷ (p3_rows, idle_rows, Some 160) ∷ (short_rows, p3_rows, Some 160) ∷ (p2_rows, p2_rows, None) ∷ []
