-- The run that the rows of a recording show. Document 02, R-5. Assumes nothing.
use Rattle.std.specs.Prelude.{ℕ, cond, ◌&&◌, List, [], ◌∷◌, leb, ltb}
use Rattle.laws.specs.Words.{tabulate}
use Rattle.theory.specs.Runs.{Entry, idle, runs}
use Rattle.recording.specs.declared.row.Row.{Row}

-- The entry of tick n, which covers the time from n to n + 1: the job of the row that holds it, or idle.
unfoldable pub row_entry : List Row → ℕ → Entry
row_entry [] n = idle
row_entry (r ∷ rs) n =
    let others = row_entry rs n in
    cond (leb r.from n && ltb n r.to) (runs r.at) others

-- The end of the last row, and where there is none a time given.
unfoldable pub end_from : ℕ → List Row → ℕ
end_from time [] = time
end_from time (r ∷ rs) = end_from r.to rs

-- The time at which the recording ends, 0 where it has no row.
abbrev pub end_of : List Row → ℕ
end_of rows = end_from 0 rows

-- The entries of all ticks before the end of the last row.
unfoldable pub recorded : List Row → List Entry
recorded rows = tabulate 0 (end_of rows) (row_entry rows)
