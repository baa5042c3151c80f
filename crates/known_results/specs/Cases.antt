-- Tables with known results: document 01, P1 to P8, Tables 1 to 3 of source document 004 for P1, and the example of document 02, R-2. A deadline,
-- priority or least time that they do not give is chosen here; of runs they give the rows of P2 and of R-2's example, a completion of P3 and the end
-- of P4, and the rest is worked out by hand. Assumes nothing.
use Rattle.std.specs.Prelude.{ℕ, Bool, true, false, List, [], ◌∷◌, ◌++◌, map, length, get_or, ℤ, pos, neg_ℤ, Result, Ok, Err, ⊤}
use Rattle.laws.specs.Words.{number_at, tabulate}
use Rattle.jobs.specs.{declared.job.Job.Job, Jobs.job, Jobs.job_at, Checks.check_of}
use Rattle.theory.specs.{Table.table_of, Bounds.interference_at, Bounds.ert, Bounds.cja, Bounds.itr, Bounds.slacks, Bounds.meets}
use Rattle.machine.specs.{declared.run.Completed.Completed, Runs.run_of, Runs.rows, Runs.traced}
use Rattle.jobs.specs.declared.refusal.Refusal.{Refusal}

-- Running times and what is known of the run with them: each job's completion in table order, its end and its steps, and the rows of its trace.
abbrev pub KnownRun : Type 0
KnownRun = List ℕ × (List ℕ × ℕ × ℕ) × List ℕ

-- What a run answers of a set with so many jobs; of one that is refused all figures are 0.
abbrev pub figures_of : ℕ → Result Completed Refusal → List ℕ × ℕ × ℕ
figures_of count (Ok run) = (tabulate 0 count (λ u. get_or run.completions u 0), run.end, run.steps)
figures_of count (Err refusal) = (tabulate 0 count (λ u. 0), 0, 0)

-- The same, by the definitions.
unfoldable pub run_with : List Job → List ℕ → KnownRun
run_with js times = (times, figures_of (length js) (run_of js times), rows js (traced js times))

-- A job with its effective release, its interference, and its columns of the bounds text: ERT, CJA, ITR, slack.
abbrev pub Known : Type 0
Known = Job × ℕ × ℕ × ℕ × ℕ × ℕ × ℤ

-- The same of the job at a place, by the definitions.
unfoldable pub known_at : List Job → ℕ → Known
known_at js i =
    let t = table_of js in
    (job_at js i, t.earliest i, interference_at t i, number_at (ert t) i, number_at (cja t) i, number_at (itr t).bounds i, get_or (slacks js) i (pos 0))

-- A table and what is known of it: its jobs; its check, ITR's rounds and verdict; runs.
abbrev pub Case : Type 0
Case = List Known × ((Result ⊤ Refusal) × ℕ × Bool) × List KnownRun

-- The jobs of a case.
abbrev pub jobs_in : Case → List Job
jobs_in c = map (λ (j : Known). j.0) c.0

-- A case with every answer worked out by the definitions.
unfoldable pub by_definition : Case → Case
by_definition c =
    let js = jobs_in c in
    let answer = itr (table_of js) in
    let runs = map (λ (r : KnownRun). run_with js r.0) c.2 in
    (tabulate 0 (length js) (known_at js), (check_of js, answer.rounds, meets js answer.bounds), runs)

-- A slack below zero.
abbrev pub minus : ℕ → ℤ
minus n = neg_ℤ (pos n)

-- A row of a trace.
abbrev pub row : ℕ → ℕ → ℕ → ℕ → List ℕ
row c k from to = c ∷ k ∷ from ∷ to ∷ []

-- P2: P1 with all most times.
abbrev pub p2 : KnownRun
p2 = (
  40 ∷ 10 ∷ 50 ∷ 85 ∷ 10 ∷ 50 ∷ [],
  (50 ∷ 60 ∷ 160 ∷ 245 ∷ 40 ∷ 110 ∷ [], 245, 10),
  row 1 1 0 30 ++ row 2 1 30 40 ++ row 1 1 40 50 ++ row 1 2 50 60 ++ row 2 2 60 110 ++ row 1 3 110 160 ++ row 1 4 160 245,
)

-- P3: P1 with 30 for the first job; job 1 of chain 2 completes later, at 50 and not 40.
abbrev pub p3 : KnownRun
p3 = (
  30 ∷ 10 ∷ 50 ∷ 85 ∷ 10 ∷ 50 ∷ [],
  (30 ∷ 40 ∷ 160 ∷ 245 ∷ 50 ∷ 110 ∷ [], 245, 10),
  row 1 1 0 30 ++ row 1 2 30 40 ++ row 2 1 40 50 ++ row 2 2 60 110 ++ row 1 3 110 160 ++ row 1 4 160 245,
)

-- P1: two chains, with deadlines of which one is missed.
abbrev pub p1 : Case
p1 = (
  (job 1 1 0 1 20 40 60, 0, 60, 100, 100, 50, pos 10)
      ∷ (job 1 2 20 3 5 10 60, 20, 0, 110, 110, 60, pos 0)
      ∷ (job 1 3 75 1 40 50 170, 75, 60, 220, 185, 175, minus 5)
      ∷ (job 1 4 130 3 85 85 260, 130, 0, 305, 270, 260, pos 0)
      ∷ (job 2 1 30 2 10 10 50, 30, 85, 125, 125, 50, pos 0)
      ∷ (job 2 2 60 2 50 50 120, 60, 85, 260, 195, 110, pos 10)
      ∷ [],
  ((Ok tt), 2, false),
  p2 ∷ p3 ∷ [],
)

-- P4: one job, with the deadline that its bound meets and with the one before; before its release the machine is idle.
abbrev pub p4 : ℕ → ℤ → Bool → Case
p4 deadline slack verdict =
    ((job 1 1 5 1 3 7 deadline, 5, 0, 12, 12, 12, slack) ∷ [], ((Ok tt), 1, verdict), (3 ∷ [], (8 ∷ [], 8, 2), row 1 1 5 8) ∷ [])

-- P5: equals in two chains.
abbrev pub p5 : Case
p5 = ((job 1 1 0 1 4 4 8, 0, 4, 8, 8, 8, pos 0) ∷ (job 2 1 0 1 4 4 8, 0, 4, 8, 8, 8, pos 0) ∷ [], ((Ok tt), 2, true), [])

-- P6: a later job's effective release, at which it runs, and later where the first takes its most time.
abbrev pub p6 : Case
p6 = (
  (job 1 1 0 1 4 6 6, 0, 0, 6, 6, 6, pos 0) ∷ (job 1 2 1 1 2 2 9, 4, 0, 8, 8, 8, pos 1) ∷ [],
  ((Ok tt), 1, true),
  (4 ∷ 2 ∷ [], (4 ∷ 6 ∷ [], 6, 2), row 1 1 0 4 ++ row 1 2 4 6) ∷ (6 ∷ 2 ∷ [], (6 ∷ 8 ∷ [], 8, 3), row 1 1 0 6 ++ row 1 2 6 8) ∷ [],
)

-- P7: spans that touch.
abbrev pub p7 : Case
p7 = ((job 1 1 0 1 5 5 5, 0, 3, 8, 8, 5, pos 0) ∷ (job 2 1 5 2 3 3 8, 5, 0, 8, 8, 8, pos 0) ∷ [], ((Ok tt), 1, true), [])

-- P8: spans that overlap.
abbrev pub p8 : Case
p8 = ((job 1 1 0 1 5 5 5, 0, 3, 8, 8, 8, minus 3) ∷ (job 2 1 4 2 3 3 8, 4, 0, 7, 7, 7, pos 1) ∷ [], ((Ok tt), 2, false), [])

-- R-2's example: of two equals the one that became ready earlier, of the higher chain number, is not displaced.
abbrev pub equals_in_order : Case
equals_in_order = (
  (job 1 1 2 1 3 3 9, 2, 4, 9, 9, 9, pos 0) ∷ (job 2 1 0 1 4 4 7, 0, 3, 7, 7, 7, pos 0) ∷ [],
  ((Ok tt), 2, true),
  (3 ∷ 4 ∷ [], (7 ∷ 4 ∷ [], 7, 3), row 2 1 0 4 ++ row 1 1 4 7) ∷ [],
)

-- The table of cases.
abbrev pub cases : List Case
cases = p1 ∷ p4 12 (pos 0) true ∷ p4 11 (minus 1) false ∷ p5 ∷ p6 ∷ p7 ∷ p8 ∷ equals_in_order ∷ []
