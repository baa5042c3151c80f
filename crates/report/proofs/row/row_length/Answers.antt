-- `row_length` answers the length of the row's line. Assumes nothing.
use Prim.Native.Nat.{◌≤◌}
use Rattle.decimal.specs.Digits.{signed}
use Rattle.report.proofs.RowTexts.{signed_word, row-length}
use borrow.Author.Rules.{rules}
use lib.ListN.{length}
use mathlib.Core.Path.{◌≡◌}
use mir.Facts.{to_z-of_z}
use mir.Syntax.{w64}
use mir.Val.{SFits}
use native.Mathlib.Omega.{arith}
use Rattle.report.proofs.row.row_length.Goals as goal

pub overflow_add-result : goal.overflow_add-result
overflow_add-result c =
    let slack-fits : SFits w64 c.args.row.slack = (record { sfits = c.struct_told-1.given.1.1.1.1.1.0.1 }) in
    let slack_is : c.signed_length.result ≡ length (signed c.args.row.slack) = (rw (to_z-of_z (slack-fits)) at c.signed_length.ensures) in
    let slack-within : length (signed c.args.row.slack) ≤ 21 = (signed_word c.args.row.slack (slack-fits)) in
    search (rules, slack_is, slack-within, c.columns_length.ensures.1)

pub overflow_add-result-2 : goal.overflow_add-result-2
overflow_add-result-2 c =
    let slack-fits : SFits w64 c.args.row.slack = (record { sfits = c.struct_told-1.given.1.1.1.1.1.0.1 }) in
    let slack_is : c.signed_length.result ≡ length (signed c.args.row.slack) = (rw (to_z-of_z (slack-fits)) at c.signed_length.ensures) in
    let slack-within : length (signed c.args.row.slack) ≤ 21 = (signed_word c.args.row.slack (slack-fits)) in
    search (rules, slack_is, slack-within, c.columns_length.ensures.1)

pub returns : goal.returns
returns c =
    let slack-fits : SFits w64 c.args.row.slack = (record { sfits = c.struct_told-1.given.1.1.1.1.1.0.1 }) in
    let slack_is : c.signed_length.result ≡ length (signed c.args.row.slack) = (rw (to_z-of_z (slack-fits)) at c.signed_length.ensures) in
    let slack-within : length (signed c.args.row.slack) ≤ 21 = (signed_word c.args.row.slack (slack-fits)) in
    let columns = c.columns_length.ensures in
    (omega (arith, slack_is, columns.0, row-length c.args.row), omega (arith, slack_is, slack-within, columns.1))
