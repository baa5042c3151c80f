-- The runs of demand 3. Document 01, "The runs of demand 3". Nothing here is taken from the machine or its state: a job's work is given by its place,
-- and the tick by its number. Assumes nothing.
use Rattle.std.specs.Prelude.{ℕ, zero, suc, ◌+◌, ◌≤◌, ◌≡◌, Bool, true, false, cond, not, ◌&&◌, ◌||◌, List, leb, ltb, eqb, length, get_or}
use Rattle.laws.specs.Words.{number_at, every_below}
use Rattle.theory.specs.Table.{Table, joined}

-- One tick of a run: a job of the table, by its place, or idle.
pub data Entry : Type 0 where
  idle : Entry
  runs : ℕ → Entry

-- Whether an entry names a job.
unfoldable pub names : Entry → ℕ → Bool
names idle u = false
names (runs v) u = eqb v u

-- A job's work at n: the number of entries before n that name it.
unfoldable pub work : List Entry → ℕ → ℕ → ℕ
work run zero u = 0
work run (suc n) u = work run n u + cond (names (get_or run n idle) u) 1 0

-- A job is complete when its work is its running time.
unfoldable pub complete : List ℕ → (ℕ → ℕ) → ℕ → Bool
complete times worked u = eqb (worked u) (number_at times u)

-- A job's predecessor is complete: the job before it in the table, where that is of its chain.
unfoldable pub predecessor_complete : Table → List ℕ → (ℕ → ℕ) → ℕ → Bool
predecessor_complete t times worked zero = true
predecessor_complete t times worked (suc v) = cond (joined t v) (complete times worked v) true

-- A job is ready at n if its release is at most n, it is not complete, and its predecessor is.
unfoldable pub ready : Table → (ℕ → ℕ) → List ℕ → (ℕ → ℕ) → ℕ → ℕ → Bool
ready t release times worked n u = leb (release u) n && not (complete times worked u) && predecessor_complete t times worked u

-- An entry is legal, by which jobs are ready at its tick: a ready job with no job of higher priority ready, or idle with no job ready.
unfoldable pub legal_entry : Table → (ℕ → Bool) → Entry → Bool
legal_entry t is_ready idle = every_below t.count (λ v. not (is_ready v))
legal_entry t is_ready (runs u) =
    ltb u t.count && is_ready u && every_below t.count (λ v. not (is_ready v) || leb (t.urgency v) (t.urgency u))

-- The running times are one for each job, from its least to its most.
unfoldable pub times_fit : Table → List ℕ → Bool
times_fit t times =
    eqb (length times) t.count && every_below t.count (λ u. leb (t.least u) (number_at times u) && leb (number_at times u) (t.most u))

-- The releases are one for each job, from its earliest to its latest: the effective release, where one is given.
unfoldable pub releases_fit : Table → (ℕ → ℕ) → Bool
releases_fit t release = every_below t.count (λ u. leb (t.earliest u) (release u) && leb (release u) (t.latest u))

-- A list with one entry for each tick 0, 1, 2 and so on is a run: releases and times in range, legal entries, and any pick among equals.
unfoldable pub is_run : Table → (ℕ → ℕ) → List ℕ → List Entry → Bool
is_run t release times run =
    releases_fit t release
    && times_fit t times
    && every_below (length run) (λ n. legal_entry t (ready t release times (work run n) n) (get_or run n idle))

-- A job is complete no later than a bound B if in every run of at least B entries it is complete at B.
abbrev pub CompleteBy : Table → ℕ → ℕ → Type 0
CompleteBy t j bound =
    (release : ℕ → ℕ) (times : List ℕ) (run : List Entry) → is_run t release times run ≡ true
    → bound ≤ length run → complete times (work run bound) j ≡ true
