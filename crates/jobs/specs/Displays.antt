-- How refusals and jobs print, in a program's lines. Document 01, "Programs and the C side". Assumes nothing.
use Rattle.std.specs.Prelude.{ℕ, List, ◌∷◌, ◌++◌}
use Rattle.std.specs.Fmt.{decimal}
use Rattle.laws.specs.Words.{ascii}
use Rattle.jobs.specs.declared.{job.Job.Job, refusal.Refusal.Refusal}
use Rattle.jobs.specs.Refusals.{number_of}

-- A refusal: the word, a comma, code 44, and its number.
abbrev pub refusal_shown : Refusal → List ℕ
refusal_shown refusal = ascii "refused," ++ decimal (number_of refusal)

-- A job: its numbers and values in the order of a table's columns, with commas between them.
abbrev pub job_shown : Job → List ℕ
job_shown j =
    decimal j.chain ++ 44 ∷ decimal j.job ++ 44 ∷ decimal j.release ++ 44 ∷ decimal j.priority
    ++ 44 ∷ decimal j.least ++ 44 ∷ decimal j.most ++ 44 ∷ decimal j.deadline
