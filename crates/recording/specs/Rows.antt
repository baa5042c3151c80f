-- Rows of a recording and their order. Document 02, R-5 and its number 15. Assumes nothing.
use Rattle.std.specs.Prelude.{ℕ, Bool, true, not, ◌&&◌, List, [], ◌∷◌, leb, ltb, eqb}
use Rattle.recording.specs.declared.row.Row.{Row}

-- A row by its job's place and its times.
abbrev pub row : ℕ → ℕ → ℕ → Row
row at from to = record { at = at; from = from; to = to }

-- What stands in a recording where there is no row.
abbrev pub no_row : Row
no_row = row 0 0 0

-- A row comes after another: it does not begin before that one's end, and where it begins there it is of another job.
unfoldable pub follows : Row → Row → Bool
follows before r = leb before.to r.from && not (eqb before.to r.from && eqb before.at r.at)

-- The first of some rows comes after a row.
unfoldable pub next_follows : Row → List Row → Bool
next_follows before [] = true
next_follows before (r ∷ rs) = follows before r

-- Each row begins before it ends and comes after the row before it.
unfoldable pub in_order : List Row → Bool
in_order [] = true
in_order (r ∷ rs) = ltb r.from r.to && next_follows r rs && in_order rs
