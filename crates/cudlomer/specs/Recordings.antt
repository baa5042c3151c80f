-- What C gets of two recordings of the set in its memory: the answer, and what is left in memory. Document 02, R-5. Assumes nothing.
use Rattle.std.specs.Prelude.{ℕ, cond, List, [], ◌∷◌, length, ℤ}
use Rattle.std.specs.Option.{is_some, unwrap_or}
use Rattle.laws.specs.Words.{written}
use Rattle.jobs.specs.{declared.job.Job.Job, Refusals.on_ok}
use Rattle.numbers.specs.Numbers.{room_check}
use Rattle.recorders.specs.{declared.compare.Compared.Compared, Comparing.compared_of}
use Rattle.cudlomer.specs.Codes.{refusal_code, checked_code}

-- Whether the first is legal, whether the second is, and whether they differ, 1 for yes and 0 for no; then the tick, 0 where they do not.
abbrev pub compared_numbers : Compared → List ℕ
compared_numbers c = cond c.first 1 0 ∷ cond c.second 1 0 ∷ cond (is_some c.difference) 1 0 ∷ unwrap_or c.difference 0 ∷ []

-- How many they are: the refusals of the set, of the first recording and of the second, then 9.
unfoldable pub compare_code : List Job → List ℕ → List ℕ → List ℕ → ℤ
compare_code js first second memory =
    on_ok (compared_of js first second) refusal_code (λ c.
    let size = length (compared_numbers c) in
    checked_code (room_check size memory) size)

-- Memory after they are written to it.
unfoldable pub compare_into : List Job → List ℕ → List ℕ → List ℕ → List ℕ
compare_into js first second memory = on_ok (compared_of js first second) (λ refusal. memory) (λ c. written (compared_numbers c) memory)
