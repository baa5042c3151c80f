-- What C gets of a table's text beside the texts that are written. Document 01, "Programs and the C side". Assumes nothing.
use Rattle.std.specs.Prelude.{Result, Err, Bool, ℕ, List, ℤ, pos}
use Rattle.table.specs.Tables.{on_table}
use Rattle.theory.specs.{Table.table_of, Bounds.itr}
use Rattle.analysis.specs.{Answers.verdict_by}
use Rattle.cudlomer.specs.Codes.{refusal_code}
use Rattle.jobs.specs.declared.refusal.Refusal.{Refusal}

-- The verdict on a table's text; the refusals of reading come first.
unfoldable pub verdict_of_table : List ℕ → ℕ → Result Bool Refusal
verdict_of_table text algorithm = on_table text Err (λ js. verdict_by js algorithm)

-- The rounds of ITR on a table's text, or the refusal of reading.
unfoldable pub rounds_of_table : List ℕ → ℤ
rounds_of_table text = on_table text refusal_code (λ js. pos (itr (table_of js)).rounds)
