-- Which recordings are legal, by the runs of demand 3 alone. Document 02, R-5. Assumes nothing.
use Rattle.std.specs.Prelude.{ℕ, zero, suc, ◌≡◌, Bool, true, false, ◌&&◌, ◌||◌, List, [], ◌∷◌, ◌++◌, leb}
use Rattle.laws.specs.Words.{number_at, every_below}
use Rattle.theory.specs.{Table.Table, Runs.work, Runs.complete, Runs.is_run}
use Rattle.recording.specs.declared.row.Row.{Row}
use Rattle.legality.specs.Recorded.{end_of, recorded}

-- Whether rows show a run of demand 3 with these releases and running times, and with every job complete at the end of the last row.
unfoldable pub is_complete_run : Table → (ℕ → ℕ) → List ℕ → List Row → Bool
is_complete_run t release times rows =
    is_run t release times (recorded rows) && every_below t.count (complete times (work (recorded rows) (end_of rows)))

-- Whether f holds at 0, 1, … or n - 1.
unfoldable pub some_below : ℕ → (ℕ → Bool) → Bool
some_below zero f = false
some_below (suc n) f = some_below n f || f n

-- Whether f holds of some list of n numbers, each from `low` to `high` of its place.
unfoldable pub some_within : (ℕ → ℕ) → (ℕ → ℕ) → ℕ → (List ℕ → Bool) → Bool
some_within low high zero f = f []
some_within low high (suc n) f = some_below (suc (high n)) (λ x. leb (low n) x && some_within low high n (λ xs. f (xs ++ (x ∷ []))))

-- Whether a recording is legal: a complete run for some running times and some releases in their ranges.
unfoldable pub legal : Table → List Row → Bool
legal t rows =
    some_within t.least t.most t.count (λ times.
    some_within t.earliest t.latest t.count (λ releases.
    is_complete_run t (number_at releases) times rows))

-- The same as a statement: there are such running times and releases.
abbrev pub Legal : Table → List Row → Type 0
Legal t rows = (release : ℕ → ℕ) × (times : List ℕ) × (is_complete_run t release times rows ≡ true)
