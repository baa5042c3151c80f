-- What C gets of a set that stands in its memory as numbers: the answer of each function, and what it leaves in memory.
-- Numbers in memory are a set or a state as crates/numbers/specs says. Assumes nothing.
use Rattle.std.specs.Prelude.{Result, Ok, Err, Bool, true, false, ℕ, List, ℤ, pos, length, take, ⊤}
use Rattle.laws.specs.Words.{written}
use Rattle.jobs.specs.declared.{job.Job.Job}
use Rattle.jobs.specs.{Refusals.on_pass, Refusals.and_then, Jobs.chains_of, Jobs.jobs_of, Checks.check_of}
use Rattle.table.specs.Tables.{on_table}
use Rattle.theory.specs.{Table.table_of, Bounds.itr}
use Rattle.analysis.specs.declared.{answer.Admission.Admission}
use Rattle.analysis.specs.Answers.{bounds_by, delays_by, on_bounds, admission_of}
use Rattle.machine.specs.{declared.run.Completed.Completed, Ticks.machine_check, Ticks.state_check, Ticks.tick_of, Runs.run_of}
use Rattle.numbers.specs.Numbers.{set_in, held_set, state_size, state_numbers, state_in, delays_numbers, room_check, put_check, put_from}
use Rattle.cudlomer.specs.Codes.{refusal_code, checked_code, ticked_code}
use Rattle.jobs.specs.declared.refusal.Refusal.{Refusal}

-- The jobs that numbers hold.
abbrev pub jobs_here : List ℕ → List Job
jobs_here numbers = jobs_of (held_set numbers)

-- How many jobs a table's text has: the refusals of reading come first, then 9.
unfoldable pub read_code : List ℕ → List ℕ → ℤ
read_code text memory = on_table text refusal_code (λ js. checked_code (put_check js memory) (length js))

-- Memory after they are written to it.
unfoldable pub read_into : List ℕ → List ℕ → List ℕ
read_into text memory = on_table text (λ refusal. memory) (λ js. put_from js 0 memory)

-- How many bounds jobs have by an algorithm: the refusals of the set, then 10, then 9.
unfoldable pub bounds_code : List Job → ℕ → List ℕ → ℤ
bounds_code js algorithm memory =
    on_pass (check_of js) refusal_code (on_bounds (bounds_by js algorithm) refusal_code (λ bounds. checked_code (room_check (length bounds) memory) (length bounds)))

-- Memory after they are written to it.
unfoldable pub bounds_into : List Job → ℕ → List ℕ → List ℕ
bounds_into js algorithm memory =
    on_pass (check_of js) (λ refusal. memory) (on_bounds (bounds_by js algorithm) (λ refusal. memory) (λ bounds. written bounds memory))

-- The numbers of what delays each job by an algorithm: the job from which the sum of its bound begins, then the block of each chain.
abbrev pub blocks_by : List Job → ℕ → List ℕ
blocks_by js algorithm = delays_numbers (chains_of js) (delays_by js algorithm)

-- How many they are: the refusals of the set, then 10, then 9.
unfoldable pub blocks_code : List Job → ℕ → List ℕ → ℤ
blocks_code js algorithm memory =
    let numbers = blocks_by js algorithm in
    on_pass (check_of js) refusal_code (on_bounds (bounds_by js algorithm) refusal_code (λ bounds. checked_code (room_check (length numbers) memory) (length numbers)))

-- Memory after they are written to it.
unfoldable pub blocks_into : List Job → ℕ → List ℕ → List ℕ
blocks_into js algorithm memory =
    on_pass (check_of js) (λ refusal. memory) (on_bounds (bounds_by js algorithm) (λ refusal. memory) (λ bounds. written (blocks_by js algorithm) memory))

-- How many rounds ITR takes: the refusals of the set come first.
unfoldable pub rounds_code : List Job → ℤ
rounds_code js = checked_code (check_of js) (itr (table_of js)).rounds

-- The first count jobs in numbers and a further chain: the verdict, and the set after it.
abbrev pub admission_here : List ℕ → ℕ → List ℕ → ℕ → Admission
admission_here numbers count chain algorithm = admission_of (set_in numbers count) (held_set chain) algorithm

-- On yes how many jobs the set has, or 9 where they do not fit; on no 0.
abbrev pub admit_code : Result Bool Refusal → List Job → List ℕ → ℤ
admit_code (Ok true) js memory = checked_code (put_check js memory) (length js)
admit_code (Ok false) js memory = pos 0
admit_code (Err refusal) js memory = refusal_code refusal

-- Memory after it: on yes the new jobs stand behind the first count.
abbrev pub admit_into : Result Bool Refusal → List Job → ℕ → List ℕ → List ℕ
admit_into (Ok true) js count memory = put_from js count memory
admit_into (Ok false) js count memory = memory
admit_into (Err refusal) js count memory = memory

-- What is checked before a tick: the refusals of the set, then 8, then 9 where the state has too few numbers, then 11.
unfoldable pub tick_check : List Job → List ℕ → List ℕ → Result ⊤ Refusal
tick_check js times memory =
    and_then (machine_check js times) (and_then (room_check state_size memory) (state_check (table_of js) times (state_in memory)))

-- What a tick answers.
unfoldable pub tick_code : List Job → List ℕ → List ℕ → ℤ
tick_code js times memory = on_pass (tick_check js times memory) refusal_code (ticked_code (tick_of js times (state_in memory)).ticked)

-- Memory after it.
unfoldable pub tick_into : List Job → List ℕ → List ℕ → List ℕ
tick_into js times memory =
    on_pass (tick_check js times memory) (λ refusal. memory) (written (state_numbers (tick_of js times (state_in memory)).state) memory)

-- What is made of a run, or of its refusal.
abbrev pub on_run : {A : Type 0} → Result Completed Refusal → (Refusal → A) → (Completed → A) → A
on_run (Ok run) otherwise answer = answer run
on_run (Err refusal) otherwise answer = otherwise refusal

-- The end of a run: the refusals of the set, then 8, then 9 where there is not a number for each job.
unfoldable pub run_code : List Job → List ℕ → List ℕ → ℤ
run_code js times memory = on_run (run_of js times) refusal_code (λ run. checked_code (room_check (length js) memory) run.end)

-- Memory after it: each job's completion.
unfoldable pub run_into : List Job → List ℕ → List ℕ → List ℕ
run_into js times memory = on_run (run_of js times) (λ refusal. memory) (λ run. written (take (length js) run.completions) memory)
