-- The machine's state, the job that it picks, and one tick. Document 01, "The machine" and numbers 4 to 8 and 11. Assumes nothing.
use Rattle.std.specs.Prelude.{Option, Some, None, ℕ, zero, suc, ◌+◌, Bool, cond, not, ◌&&◌, ◌||◌, List, leb, ltb, eqb, set, replicate, Result, Ok, Err, ⊤}
use Rattle.laws.specs.Words.{number_at, every_below}
use Rattle.jobs.specs.declared.{job.Job.Job, refusal.Refusal.Refusal}
use Rattle.jobs.specs.{Limits.max_jobs, Refusals.unless, Refusals.and_then, Checks.check_of, Jobs.job_at, Refusals.on_pass}
use Rattle.theory.specs.{Table.Table, Table.table_of, Runs.complete, Runs.ready, Runs.times_fit, Runs.Entry, Runs.idle, Runs.runs, Runs.predecessor_complete}
use Rattle.machine.specs.{declared.state.State.State, declared.rank.Rank.Rank, declared.pick.Best.Best, declared.step.Ticked.Ticked, declared.step.Stepped.Stepped, Order.rank_of, Order.outranks}

-- The greatest time of a state, which no run from time 0 reaches.
abbrev pub last_time : ℕ
last_time = 2000000000

-- Time 0, no work done and no completion.
abbrev pub start : State
start = record { time = 0; work = replicate max_jobs 0; completions = replicate max_jobs 0 }

-- Each of the first n jobs is complete.
abbrev pub all_complete : List ℕ → List ℕ → ℕ → Bool
all_complete times work n = every_below n (complete times (number_at work))

-- A job is ready in a state: as in a run, by its effective release and the state's work and time.
abbrev pub ready_in : Table → List ℕ → State → ℕ → Bool
ready_in t times s = ready t t.earliest times (number_at s.work) s.time

-- The better of the best so far and a ready job of this rank at u: that job, where it is the first or goes before the best.
unfoldable pub better : Option Best → ℕ → Rank → Best
better None u rank = record { at = u; rank = rank }
better (Some best) u rank = cond (outranks rank best.rank) (record { at = u; rank = rank }) best

-- The best of the first n jobs, of those that are ready, where one is.
unfoldable pub best_up_to : Table → List ℕ → State → ℕ → Option Best
best_up_to t times s zero = None
best_up_to t times s (suc u) =
    let best = best_up_to t times s u in
    cond (ready_in t times s u) (Some (better best u (rank_of t (number_at s.completions) u))) best

-- What a tick runs by the best: that job, idle where there is none.
abbrev pub entry_by : Option Best → Entry
entry_by None = idle
entry_by (Some best) = runs best.at

-- What runs of all jobs, idle where none is ready: the entry of a state's next tick.
unfoldable pub pick : Table → List ℕ → State → Entry
pick t times s = entry_by (best_up_to t times s t.count)

-- The state after a tick with this entry: the time goes up by 1, and so does the work of the job that ran; where that makes it complete, the time is its
-- completion.
abbrev pub moved : List ℕ → Entry → State → State
moved times idle s = record { time = s.time + 1; work = s.work; completions = s.completions }
moved times (runs u) s =
    let worked = number_at s.work u + 1 in
    record {
      time = s.time + 1;
      work = set s.work u worked;
      completions = set s.completions u (cond (eqb worked (number_at times u)) (s.time + 1) (number_at s.completions u));
    }

-- The state after one tick: as it was, where all jobs are complete before it.
unfoldable pub next : Table → List ℕ → State → State
next t times s = cond (all_complete times s.work t.count) s (moved times (pick t times s) s)

-- What a tick with this entry answers: the chain and job that ran, or "idle".
abbrev pub ran_as : List Job → Entry → Ticked
ran_as js idle = Ticked.Idle
ran_as js (runs u) = Ticked.Ran (job_at js u).chain (job_at js u).job

-- The answer of a tick, "finished" where all jobs are complete before it, and the state after it.
unfoldable pub tick_of : List Job → List ℕ → State → Stepped
tick_of js times s =
    let t = table_of js in
    record {
      ticked = Ok (cond (all_complete times s.work t.count) Ticked.Finished (ran_as js (pick t times s)));
      state = next t times s;
    }

-- What the machine's operations check of a set and its running times: the refusals of the set, then 8.
unfoldable pub machine_check : List Job → List ℕ → Result ⊤ Refusal
machine_check js times = and_then (check_of js) (unless (times_fit (table_of js) times) Refusal.RunningTimes (Ok tt))

-- A job has no more work than its running time, and work only with its predecessor complete and at a time after its release.
unfoldable pub work_possible : Table → List ℕ → (ℕ → ℕ) → ℕ → ℕ → Bool
work_possible t times worked time u =
    leb (worked u) (number_at times u)
    && (eqb (worked u) 0 || (predecessor_complete t times worked u && ltb (t.earliest u) time))

-- A complete job's completion is after its release and not later than the time; that of another job is not read.
unfoldable pub completion_possible : Table → List ℕ → (ℕ → ℕ) → (ℕ → ℕ) → ℕ → ℕ → Bool
completion_possible t times worked completed time u =
    not (complete times worked u) || (ltb (t.earliest u) (completed u) && leb (completed u) time)

-- The work and the completion of a job are possible in a state.
unfoldable pub possible : Table → List ℕ → State → ℕ → Bool
possible t times s u =
    work_possible t times (number_at s.work) s.time u
    && completion_possible t times (number_at s.work) (number_at s.completions) s.time u

-- Number 11: the time is beyond its limit, or the work or completion of some job is not possible.
unfoldable pub state_check : Table → List ℕ → State → Result ⊤ Refusal
state_check t times s = unless (leb s.time last_time && every_below t.count (possible t times s)) Refusal.ImpossibleState (Ok tt)

-- The answer and the state after a tick, or the refusal, of the set, then 8, then 11, and the state as it was.
unfoldable pub step_of : List Job → List ℕ → State → Stepped
step_of js times s =
    let check = and_then (machine_check js times) (state_check (table_of js) times s) in
    on_pass check (λ refusal. record { ticked = Err refusal; state = s }) (tick_of js times s)
