-- The answers of the bounds, whose unused places are 0. Document 01, "Bounds", the refusals of a set, and document 02, R-3. Assumes nothing.
use Rattle.std.specs.Prelude.{Result, Ok, Err, ℕ, List}
use Rattle.laws.specs.Words.{padded}
use Rattle.jobs.specs.declared.{set.JobSet.JobSet, refusal.Refusal.Refusal}
use Rattle.jobs.specs.{Limits.max_jobs, Refusals.on_pass, Jobs.jobs_of, Checks.check_of}
use Rattle.theory.specs.{Table.table_of, Bounds.ert, Bounds.cja, Bounds.itr, Delays.ert_delay, Delays.cja_delay, Delays.itr_delay}
use Rattle.completion.specs.declared.{answer.Bounds.Bounds, answer.Itr.Itr, answer.ItrAlone.ItrAlone}
use Rattle.completion.specs.Delays.{no_delay, delays_named}

-- The ERT bounds of a set, or what refuses it.
unfoldable pub ert_of : JobSet → Result Bounds Refusal
ert_of set =
    let js = jobs_of set in
    let t = table_of js in
    on_pass (check_of js) Err (Ok (record { bounds = padded max_jobs 0 (ert t); delays = padded max_jobs no_delay (delays_named js (ert_delay t)) }))

-- The CJA bounds of a set, or what refuses it.
unfoldable pub cja_of : JobSet → Result Bounds Refusal
cja_of set =
    let js = jobs_of set in
    let t = table_of js in
    on_pass (check_of js) Err (Ok (record { bounds = padded max_jobs 0 (cja t); delays = padded max_jobs no_delay (delays_named js (cja_delay t)) }))

-- The ITR bounds of a set and the number of rounds, or what refuses it.
unfoldable pub itr_of : JobSet → Result Itr Refusal
itr_of set =
    let js = jobs_of set in
    let t = table_of js in
    on_pass (check_of js) Err
    (Ok (record {
      bounds = padded max_jobs 0 (itr t).bounds;
      rounds = (itr t).rounds;
      delays = padded max_jobs no_delay (delays_named js (itr_delay t));
    }))

-- An answer without what its bounds come from.
abbrev pub bounds_alone : Result Bounds Refusal → Result (List ℕ) Refusal
bounds_alone (Ok answer) = Ok answer.bounds
bounds_alone (Err refusal) = Err refusal

-- The same of ITR.
abbrev pub itr_alone : Result Itr Refusal → Result ItrAlone Refusal
itr_alone (Ok answer) = Ok (record { bounds = answer.bounds; rounds = answer.rounds })
itr_alone (Err refusal) = Err refusal
