-- What is proved of recordings; proofs/Claims.antt has the proof of all. Document 02, R-5. Assumes nothing.
use Rattle.std.specs.Prelude.{None, ℕ, ◌≤◌, ◌<◌, ◌≡◌, ◌↔◌, true, List, Ok}
use Rattle.laws.specs.Words.{number_at}
use Rattle.jobs.specs.{declared.job.Job.Job, Checks.check_of}
use Rattle.theory.specs.{Table.Table, Table.table_of, Bounds.ert, Bounds.cja, Bounds.itr}
use Rattle.recording.specs.{declared.row.Row.Row, Rows.in_order}
use Rattle.legality.specs.{Recorded.row_entry, Legality.legal, Legality.Legal, Procedure.done, Procedure.recording_fits, Differences.first_difference, Differences.FirstAt}

-- Each job's last row ends no later than its bound.
abbrev pub Kept : Table → List Row → List ℕ → Type 0
Kept t rows bounds = (u : ℕ) → u < t.count → done rows u ≤ number_at bounds u

-- One field for each theorem on one recording.
pub record Claims (t : Table) (rows : List Row) : Type 0 where
  -- A recording is legal exactly if there are releases and running times, in their ranges, with which it is a complete run.
  pub legal_some : (legal t rows ≡ true) ↔ Legal t rows
  -- The tests of rows and jobs decide this.
  pub legal_iff : (recording_fits t rows ≡ true) ↔ Legal t rows
  -- A legal recording keeps the three bounds.
  pub legal_keeps_bounds : Legal t rows → Kept t rows (ert t) × Kept t rows (cja t) × Kept t rows (itr t).bounds

-- They hold of every accepted list of jobs and every recording with rows in order.
abbrev pub EveryRecording : Type 0
EveryRecording = (js : List Job) → check_of js ≡ Ok tt → (rows : List Row) → in_order rows ≡ true → Claims (table_of js) rows

-- One field for each theorem on two recordings.
pub record TwoClaims (a b : List Row) : Type 0 where
  -- The first difference is the first tick at which they differ.
  pub first : FirstAt a b (first_difference a b)
  -- It is the same with the two exchanged.
  pub exchanged : first_difference b a ≡ first_difference a b
  -- There is none exactly if they show the same at every tick, for ever.
  pub none_iff : (first_difference a b ≡ None) ↔ ((n : ℕ) → row_entry a n ≡ row_entry b n)

-- They hold of any two recordings with rows in order.
abbrev pub EveryTwo : Type 0
EveryTwo = (a b : List Row) → in_order a ≡ true → in_order b ≡ true → TwoClaims a b
