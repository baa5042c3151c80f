-- A whole recording, by the check of its set and by its header. Assumes nothing.
use Rattle.std.specs.Prelude.{Some, None, Result, ⊤, Ok, Err}
use Prim.Native.Nat.{ℕ, ◌≤◌}
use mathlib.Core.List.{List, []}
use mathlib.Core.Path.{◌≡◌, refl, ◌∙◌}
use native.Mathlib.Omega.{arith}
use lib.ListN.{length, drop}
use Rattle.decimal.proofs.Absence.{lacks}
use Rattle.jobs.specs.declared.job.Job.{Job}
use Rattle.jobs.specs.declared.refusal.Refusal.{Refusal}
use Rattle.jobs.specs.declared.refusal.Refusal.TheVariants.{MalformedRecording}
use Rattle.jobs.specs.Checks.{check_of}
use Rattle.table.specs.Lines.{lines_of, end_behind}
use Rattle.table.proofs.Headers.{under_not, under_here}
use Rattle.recording.specs.declared.reading.Recording.{Recording}
use Rattle.recording.specs.Reading.{header, rows_from, under_header, recording_of}

module _ (js : List Job) (text : List ℕ) where
  pub set_refused : (x : Refusal) → check_of js ≡ Err x → Err x ≡ recording_of js text
  unfolding recording_of
  set_refused x e = rw e

  module _ (passed : check_of js ≡ Ok tt) where
    recording_by : under_header js (lines_of text) ≡ recording_of js text
    unfolding recording_of
    recording_by = rw passed

    pub no_header : end_behind header text ≡ None → Err MalformedRecording ≡ recording_of js text
    unfolding lacks
    no_header e = under_not header (omega arith) refl (rows_from js []) (Err MalformedRecording) text e ∙ recording_by

    pub under-header : (n : ℕ) → end_behind header text ≡ Some n → (n ≤ length text) × (rows_from js [] (lines_of (drop n text)) ≡ recording_of js text)
    unfolding lacks
    under-header n e =
        let h = under_here header (omega arith) refl (rows_from js []) (Err MalformedRecording) text n e in
        (h.0, h.1 ∙ recording_by)

-- ---- a recording that passes is one of an accepted set
by_check : (js : List Job) (text : List ℕ) (check : Result ⊤ Refusal) (recording : Recording) → check_of js ≡ check → recording_of js text ≡ Ok recording → check ≡ Ok tt
unfolding recording_of
by_check js text (Ok tt) recording e p = refl
by_check js text (Err x) recording e p = let z : ◌≡◌ {A = ℕ} 0 1 = cc (rw e at p) in absurd (omega arith)

pub set_passed : (js : List Job) (text : List ℕ) (recording : Recording) → recording_of js text ≡ Ok recording → check_of js ≡ Ok tt
set_passed js text recording p = by_check js text (check_of js) recording refl p
