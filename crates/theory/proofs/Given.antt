-- A table of given releases and the one that it makes with effective releases: `table_of js` is `effective (given js)`. Assumes nothing.
use Prim.Native.Nat.{ℕ, max}
use mathlib.Core.List.{List}
use Rattle.jobs.specs.declared.job.Job.{Job}
use Rattle.jobs.specs.Jobs.{job_at}
use Rattle.theory.specs.Table.{Table, effective_release, latest_of, table_of}

abbrev pub effective_earliest : Table → ℕ → ℕ
effective_earliest t = effective_release t.chain t.least t.earliest

-- a table with other releases
abbrev released : Table → (ℕ → ℕ) → (ℕ → ℕ) → Table
released t earliest latest =
    record { count = t.count; chain = t.chain; urgency = t.urgency; least = t.least; most = t.most; earliest = earliest; latest = latest }

abbrev pub effective : Table → Table
effective t = released t (effective_earliest t) (λ i. max (t.latest i) (effective_earliest t i))

abbrev pub given : List Job → Table
given js = released (table_of js) (λ i. (job_at js i).release) (λ i. latest_of (job_at js i))
