-- `column_length` answers the length of `column_text`. Assumes nothing.
use Rattle.report.proofs.ColumnTexts.{first_length, later-length}
use Rattle.texts.proofs.WordDigits.{word_digits}
use borrow.Author.Rules.{rules}
use mathlib.Core.Path.{sym, ◌∙◌}
use native.Mathlib.Omega.{arith}
use Rattle.report.proofs.columns.column_length.Goals as goal

pub returns-then-k-eq0 : goal.returns-then-k-eq0
returns-then-k-eq0 c = c.digit_count-count.ensures ∙ sym (first_length _ _ c.if-k-eq0.true)

pub overflow_add-result : goal.overflow_add-result
overflow_add-result c = let h = word_digits c.args.value (search rules) in let e = c.digit_count-count.ensures in search (rules, h, e)

pub returns : goal.returns
returns c =
    omega (arith, c.digit_count-count.ensures, later-length c.args.k c.args.value c.if-k-eq0.false)
