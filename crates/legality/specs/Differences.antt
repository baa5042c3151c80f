-- Where two recordings begin to differ. Request R-5.
--   first_difference   the first tick at which they show different work
--   FirstAt           what it is to be that tick, or none
-- Assumes nothing.
use Rattle.std.specs.Prelude.{Option, None, Some, ℕ, ◌<◌, min, ◌≡◌, ◌≢◌, cond, ◌&&◌, List, [], ◌∷◌, eqb}
use Rattle.recording.specs.declared.row.Row.{Row}
use Rattle.legality.specs.Recorded.{row_entry}

-- The first tick at which two recordings with rows in order differ: where the rows do that are the first to differ in begin, job or end.
unfoldable pub first_difference : List Row → List Row → Option ℕ
first_difference [] [] = None
first_difference [] (s ∷ ss) = Some s.from
first_difference (r ∷ rs) [] = Some r.from
first_difference (r ∷ rs) (s ∷ ss) =
    let later = first_difference rs ss in
    cond (eqb r.from s.from && eqb r.at s.at)
    (cond (eqb r.to s.to) later (Some (min r.to s.to)))
    (Some (min r.from s.from))

-- The tick is the first at which the entries differ; none, where they never do.
abbrev pub FirstAt : List Row → List Row → Option ℕ → Type 0
FirstAt a b None = (n : ℕ) → row_entry a n ≡ row_entry b n
FirstAt a b (Some d) = ((n : ℕ) → n < d → row_entry a n ≡ row_entry b n) × (row_entry a d ≢ row_entry b d)
