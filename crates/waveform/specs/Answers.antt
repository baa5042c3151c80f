-- What the writer of a waveform answers. Document 02, R-1. Assumes nothing.
use Rattle.std.specs.Prelude.{Result, Err, ℕ, List}
use Rattle.laws.specs.Words.{written}
use Rattle.jobs.specs.{declared.job.Job.Job, Refusals.on_pass}
use Rattle.machine.specs.Ticks.{machine_check}
use Rattle.texts.specs.{Answers.answer_to}
use Rattle.dumps.specs.Dumps.{waveform_of}
use Rattle.jobs.specs.declared.refusal.Refusal.{Refusal}

-- How many bytes the waveform takes in a buffer, or the refusal: numbers 4 to 8 first, then 9.
unfoldable pub waveform_answer : List Job → List ℕ → List ℕ → Result ℕ Refusal
waveform_answer js times buffer = on_pass (machine_check js times) Err (answer_to (waveform_of js times) buffer)

-- The buffer after it, as it was where there is a refusal.
unfoldable pub waveform_left : List Job → List ℕ → List ℕ → List ℕ
waveform_left js times buffer = on_pass (machine_check js times) (λ refusal. buffer) (written (waveform_of js times) buffer)
