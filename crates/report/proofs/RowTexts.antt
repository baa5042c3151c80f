-- The pieces of a row, and how many bytes they take. Assumes nothing.
use Prim.Native.Nat.{ℕ, suc, ◌+◌, ◌≤◌}
use mathlib.Core.List.{List, [], ◌∷◌, ◌++◌, map, append-nil}
use mathlib.Core.Path.{◌≡◌, sym, ap, ◌∙◌}
use native.Mathlib.Omega.{arith}
use lib.IntN.{ℤ, pos, negsuc}
use lib.ListN.{length, drop, length-append}
use mir.Syntax.{w64}
use mir.Val.{SFits}
use Rattle.decimal.specs.Digits.{signed}
use Rattle.report.specs.declared.row.Row.{Row}
use Rattle.texts.specs.Lines.{after_commas}
use Rattle.texts.proofs.Lines.{line_end, line_text, commas_append, line_is}
use Rattle.texts.proofs.WordDigits.{word_digits}
use Rattle.report.proofs.ColumnTexts.{columns_text}

-- an integer of 64 bits has at most 19 digits, and takes at most 21 bytes
pub signed_word : (z : ℤ) → SFits w64 z → length (signed z) ≤ 21
unfolding signed
signed_word (pos n) f = omega (arith, word_digits n (omega (arith, f.sfits)))
signed_word (negsuc n) f = omega (arith, word_digits (suc n) (omega (arith, f.sfits)))

-- a comma and the slack
abbrev pub slack_text : ℤ → List ℕ
slack_text slack = after_commas (slack ∷ [])

pub slack_is : (z : ℤ) → slack_text z ≡ 44 ∷ signed z
unfolding after_commas
slack_is z = append-nil (44 ∷ signed z)

pub slack-length : (z : ℤ) → length (slack_text z) ≡ length (signed z) + 1
slack-length z = omega (arith, ap length (slack_is z))

-- the columns of a row
abbrev pub row_values : Row → List ℕ
row_values r = r.chain ∷ r.job ∷ r.ert ∷ r.cja ∷ r.itr ∷ []

-- the integers of a row
abbrev pub integers : Row → List ℤ
integers r = pos r.chain ∷ pos r.job ∷ pos r.ert ∷ pos r.cja ∷ pos r.itr ∷ r.slack ∷ []

pub row_pieces : (r : Row) → (columns_text (row_values r) ++ slack_text r.slack) ++ line_end ≡ line_text (integers r)
unfolding after_commas
row_pieces r = sym (line_is (integers r) ∙ ap (λ (l : List ℕ). drop 1 l ++ line_end) (commas_append (map pos (row_values r)) (r.slack ∷ [])))

pub row-length : (r : Row) → length (line_text (integers r)) ≡ length (columns_text (row_values r)) + length (signed r.slack) + 3
row-length r =
    let columns = columns_text (row_values r) in
    ap length (sym (row_pieces r))
    ∙ omega (arith, length-append (columns ++ slack_text r.slack) line_end, length-append columns (slack_text r.slack), slack-length r.slack)
