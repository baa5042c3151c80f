-- What a scan over job records carries from one to the next. Assumes nothing.
use Rattle.std.specs.Prelude.{ℕ, zero, suc, ◌-◌, min, Bool, false, cond, List, Option, Some, None, leb}
use Rattle.laws.specs.Words.{number_at}
use Rattle.jobs.specs.declared.job.Job.{Job}
use Rattle.jobs.specs.Jobs.{urgency_of}
use Rattle.theory.specs.{Table.table_of, Runs.complete}
use Rattle.machine.specs.{declared.state.State.State, declared.pick.Best.Best, Ticks.better, Ticks.best_up_to}

-- The ticks since a release, where it is at most the time.
unfoldable pub elapsed_since : ℕ → ℕ → Option ℕ
elapsed_since time release = cond (leb release time) (Some (time - release)) None

-- The same of a release that is later by so many ticks.
abbrev pub after : Option ℕ → ℕ → Option ℕ
after None later = None
after (Some ticks) later = elapsed_since ticks later

-- The ticks since the later of two releases.
abbrev pub fewer : Option ℕ → Option ℕ → Option ℕ
fewer None b = None
fewer (Some a) None = None
fewer (Some a) (Some b) = Some (min a b)

-- The best after a record that is ready since a time, or not ready.
abbrev pub best_by : Option Best → Job → ℕ → Option ℕ → Option Best
best_by best job u None = best
best_by best job u (Some since) = Some (better best u (record { urgency = urgency_of job; since = since; chain = job.chain }))

-- After the first n records: their best, as in a step, and of the last one chain, least time, whether it is complete, and the ticks since its release.
unfoldable pub scanned : List Job → List ℕ → State → ℕ → Option Best × ℕ × ℕ × Bool × Option ℕ
scanned js times s zero = (best_up_to (table_of js) times s 0, 0, 0, false, None)
scanned js times s (suc u) =
    let t = table_of js in
    (best_up_to t times s (suc u), t.chain u, t.least u, complete times (number_at s.work) u, elapsed_since s.time (t.earliest u))
