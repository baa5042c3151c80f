-- The answer to a waveform from the machine's: its refusal, or entries that are the spans of the run. Assumes nothing.
--   Entered   what a trace that is not refused has left
use Rattle.std.specs.Prelude.{Result, Ok, Err, ⊤}
use Prim.Native.Nat.{ℕ, ◌*◌, ◌≤◌}
use mathlib.Core.Path.{◌≡◌, refl, sym, ap, ◌∙◌}
use mathlib.Core.List.{List}
use native.Mathlib.Omega.{arith}
use lib.ListN.{length}
use Rattle.laws.specs.Words.{patched, written}
use Rattle.jobs.specs.declared.job.Job.{Job}
use Rattle.jobs.specs.declared.refusal.Refusal.{Refusal}
use Rattle.jobs.specs.Limits.{max_jobs}
use Rattle.jobs.specs.Jobs.{most_times}
use Rattle.jobs.specs.Checks.{check_of}
use Rattle.theory.specs.Table.{table_of}
use Rattle.machine.specs.declared.trace.Traced.{Traced}
use Rattle.machine.specs.Ticks.{machine_check}
use Rattle.machine.specs.Runs.{steps_of, rows, trace_check, traced, trace_of, traced_in}
use Rattle.machine.proofs.MostTimes.{most_passed}
use Rattle.machine.proofs.RunningTimes.{set_accepted}
use Rattle.machine.proofs.Tracing.{trace_written, traced-length}
use Rattle.machine.proofs.Claims.{claims}
use Rattle.texts.specs.Answers.{answer_to}
use Rattle.dumps.specs.Dumps.{dump_of, waveform_of, most_waveform}
use Rattle.dumps.proofs.Entries.{spans_of, Drawn}
use Rattle.dumps.proofs.Drawing.{left_text, left_drawn}
use Rattle.waveform.specs.Answers.{waveform_answer, waveform_left}

-- the spans that the machine has left, and with them the dump
pub record Entered (js : List Job) (times numbers : List ℕ) (n : ℕ) : Type 0 where
  pub passed : machine_check js times ≡ Ok tt
  pub drawn : Drawn js numbers n
  pub text : dump_of js (spans_of js numbers n) ≡ waveform_of js times

module _ (js : List Job) (times buffer : List ℕ) (room : 8 * max_jobs ≤ length buffer) where
  -- where the machine passes running times, it has room for their trace
  trace_there : machine_check js times ≡ Ok tt
      → (trace_of js times (length buffer) ≡ Ok (record { entries = length (traced js times); steps = steps_of (table_of js) times })) × (traced_in js times buffer ≡ patched buffer 0 (rows js (traced js times)))
  trace_there passed = trace_written js times buffer passed (omega (arith, (set_accepted js times passed).few))

  -- a refusal is that of the set or of the running times, since there is room
  refused_by : (refusal : Refusal) → trace_of js times (length buffer) ≡ Err refusal → (c : Result ⊤ Refusal) → machine_check js times ≡ c → c ≡ Err refusal
  unfolding trace_of trace_check
  refused_by refusal told (Ok tt) e = let z : ◌≡◌ {A = ℕ} 0 1 = cc (told, (trace_there e).0) in absurd (omega arith)
  refused_by refusal told (Err other) e = cc (rw e at told)

  entries_by : (t : Traced) → trace_of js times (length buffer) ≡ Ok t → (c : Result ⊤ Refusal) → machine_check js times ≡ c → c ≡ Ok tt
  unfolding trace_of trace_check
  entries_by t told (Ok tt) e = refl
  entries_by t told (Err other) e = let z : ◌≡◌ {A = ℕ} 0 1 = cc (rw e at told) in absurd (omega arith)

  module _ {answer : Result Traced Refusal} {numbers : List ℕ} (left : (answer ≡ trace_of js times (length buffer)) × (numbers ≡ traced_in js times buffer)) where
    pub waveform_refused : (refusal : Refusal) → answer ≡ Err refusal → (out : List ℕ)
        → (Err refusal ≡ waveform_answer js times out) × (out ≡ waveform_left js times out)
    unfolding waveform_answer waveform_left
    waveform_refused refusal e out =
        let check = refused_by refusal (sym left.0 ∙ e) (machine_check js times) refl in
        (rw check, rw check)

    pub entered : (t : Traced) → answer ≡ Ok t → Entered js times numbers t.entries
    entered t e =
        let told = sym left.0 ∙ e in
        let passed = entries_by t told (machine_check js times) refl in
        let there = trace_there passed in
        let whole : t ≡ record { entries = length (traced js times); steps = steps_of (table_of js) times } = cc (told, there.0) in
        let count : t.entries ≡ length (traced js times) = ap (λ (x : Traced). x.entries) whole in
        let is : numbers ≡ patched buffer 0 (rows js (traced js times)) = left.1 ∙ there.1 in
        let fits : 4 * length (traced js times) ≤ length (patched buffer 0 (rows js (traced js times))) =
        omega (
          arith,
          traced-length js times buffer passed (omega (arith, (set_accepted js times passed).few)),
          (claims js times passed).trace_within_twice,
          (set_accepted js times passed).few,
        ) in
        record { passed = passed; drawn = rw (is, count) (left_drawn js times passed buffer fits); text = rw (is, count) (left_text js times passed buffer) }

-- the answer of the dump's writer is the waveform's
pub waveform_written : {js : List Job} {times numbers : List ℕ} {n : ℕ} → Entered js times numbers n → (out : List ℕ)
    → (answer_to (dump_of js (spans_of js numbers n)) out ≡ waveform_answer js times out) × (written (dump_of js (spans_of js numbers n)) out ≡ waveform_left js times out)
unfolding waveform_answer waveform_left
waveform_written e out = rw (e.passed, e.text) (refl, refl)

-- all most times are no reason for a refusal
pub most_answer : (js : List Job) → check_of js ≡ Ok tt → (out : List ℕ) {answer : Result ℕ Refusal} {left : List ℕ}
    → (answer ≡ waveform_answer js (most_times js) out) × (left ≡ waveform_left js (most_times js) out)
    → (answer ≡ answer_to (most_waveform js) out) × (left ≡ written (most_waveform js) out)
unfolding waveform_answer waveform_left most_waveform
most_answer js passed out done = rw (most_passed js passed) at done
