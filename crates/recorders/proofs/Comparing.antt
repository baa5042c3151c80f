-- The answer to two recordings, by what reading each came to. Assumes nothing.
use Rattle.std.specs.Prelude.{Result, Ok, Err}
use Prim.Native.Nat.{ℕ}
use mathlib.Core.List.{List}
use mathlib.Core.Path.{◌≡◌, sym, ◌∙◌}
use Rattle.jobs.specs.declared.job.Job.{Job}
use Rattle.jobs.specs.declared.refusal.Refusal.{Refusal}
use Rattle.recording.specs.declared.reading.Recording.{Recording}
use Rattle.recording.specs.Reading.{recording_of}
use Rattle.recording.proofs.Headers.{set_passed}
use Rattle.recording.proofs.Readable.{recording_readable}
use Rattle.legality.proofs.Judging.{Judged}
use Rattle.recorders.specs.Comparing.{compared_with, compared_of}

pub judged_read : (js : List Job) (text : List ℕ) {answer : Result Recording Refusal} (recording : Recording) → answer ≡ recording_of js text → answer ≡ Ok recording → Judged js recording
judged_read js text recording is told =
    let read = sym is ∙ told in
    record { passed = set_passed js text recording read; readable = recording_readable js text recording read }

module _ (js : List Job) (first second : List ℕ) {answer : Result Recording Refusal} (is : answer ≡ recording_of js first) where
  pub first_refused : (x : Refusal) → answer ≡ Err x → Err x ≡ compared_of js first second
  unfolding compared_of
  first_refused x e = rw (sym is ∙ e)

  module _ (one : Recording) (told : answer ≡ Ok one) {answer_other : Result Recording Refusal} (is-other : answer_other ≡ recording_of js second) where
    pub second_refused : (x : Refusal) → answer_other ≡ Err x → Err x ≡ compared_of js first second
    unfolding compared_of
    second_refused x e = rw (sym is ∙ told, sym is-other ∙ e)

    pub both_compared : (other : Recording) → answer_other ≡ Ok other → Ok (compared_with js one other) ≡ compared_of js first second
    unfolding compared_of
    both_compared other e = rw (sym is ∙ told, sym is-other ∙ e)
