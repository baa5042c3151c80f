-- `write_row` leaves the row at the place. Assumes nothing.
use Rattle.laws.proofs.Buffers.{Wrote, wrote_none, wrote_more, wrote_room, wrote_length}
use Rattle.report.proofs.ColumnTexts.{columns_text}
use Rattle.report.proofs.RowTexts.{slack_text, slack-length, row_values, integers, row_pieces, row-length}
use Rattle.texts.proofs.Lines.{line_end, line_text}
use borrow.Author.Rules.{rules}
use lib.ListN.{length-append}
use mathlib.Core.List.{[], ◌++◌}
use mir.Facts.{to_z-of_z}
use mir.Syntax.{w64}
use mir.Val.{SFits}
use native.Mathlib.Omega.{arith}
use Rattle.report.proofs.row.write_row.Goals as goal

pub write_columns-after_columns-requires : goal.write_columns-after_columns-requires
write_columns-after_columns-requires c = omega (arith, c.requires, row-length c.args.row)

pub write_slack-after_slack-requires : goal.write_slack-after_slack-requires
write_slack-after_slack-requires c =
    let slack-fits : SFits w64 c.args.row.slack = (record { sfits = c.struct_told-1.given.1.1.1.1.1.0.1 }) in
    let columns : let a = c.args in Wrote a.out.now a.at ([] ++ columns_text (row_values a.row)) c.write_columns-after_columns.new.out c.write_columns-after_columns.result = (let a = c.args in
    wrote_more (columns_text (row_values a.row)) (wrote_none a.out.now a.at (omega (arith, c.requires))) c.write_columns-after_columns.ensures) in
    let r = c.args.row in
    rw (to_z-of_z (slack-fits)) (wrote_room (slack_text r.slack) (columns) (omega (arith, c.requires, row-length r, slack-length r.slack)))

pub write_bytes-requires : goal.write_bytes-requires
write_bytes-requires c =
    let slack-fits : SFits w64 c.args.row.slack = (record { sfits = c.struct_told-1.given.1.1.1.1.1.0.1 }) in
    let columns : let a = c.args in Wrote a.out.now a.at ([] ++ columns_text (row_values a.row)) c.write_columns-after_columns.new.out c.write_columns-after_columns.result = (let a = c.args in
    wrote_more (columns_text (row_values a.row)) (wrote_none a.out.now a.at (omega (arith, c.requires))) c.write_columns-after_columns.ensures) in
    let slack : let a = c.args in Wrote a.out.now a.at (([] ++ columns_text (row_values a.row)) ++ slack_text a.row.slack) c.write_slack-after_slack.new.out c.write_slack-after_slack.result = (wrote_more (slack_text c.args.row.slack) (columns) (rw (to_z-of_z (slack-fits)) at c.write_slack-after_slack.ensures)) in
    let r = c.args.row in
    wrote_room line_end (slack) (omega (arith, c.requires, row-length r, slack-length r.slack, length-append (columns_text (row_values r)) (slack_text r.slack)))

pub shape_of-out : goal.shape_of-out
shape_of-out c =
    let slack-fits : SFits w64 c.args.row.slack = (record { sfits = c.struct_told-1.given.1.1.1.1.1.0.1 }) in
    let columns : let a = c.args in Wrote a.out.now a.at ([] ++ columns_text (row_values a.row)) c.write_columns-after_columns.new.out c.write_columns-after_columns.result = (let a = c.args in
    wrote_more (columns_text (row_values a.row)) (wrote_none a.out.now a.at (omega (arith, c.requires))) c.write_columns-after_columns.ensures) in
    let slack : let a = c.args in Wrote a.out.now a.at (([] ++ columns_text (row_values a.row)) ++ slack_text a.row.slack) c.write_slack-after_slack.new.out c.write_slack-after_slack.result = (wrote_more (slack_text c.args.row.slack) (columns) (rw (to_z-of_z (slack-fits)) at c.write_slack-after_slack.ensures)) in
    let row : let a = c.args in Wrote a.out.now a.at (line_text (integers a.row)) c.write_bytes.new.out c.write_bytes.result = (rw (← row_pieces c.args.row) (wrote_more line_end (slack) c.write_bytes.ensures)) in
    search (rules, wrote_length (row) c.requires)

pub returns : goal.returns
returns c =
    let slack-fits : SFits w64 c.args.row.slack = (record { sfits = c.struct_told-1.given.1.1.1.1.1.0.1 }) in
    let columns : let a = c.args in Wrote a.out.now a.at ([] ++ columns_text (row_values a.row)) c.write_columns-after_columns.new.out c.write_columns-after_columns.result = (let a = c.args in
    wrote_more (columns_text (row_values a.row)) (wrote_none a.out.now a.at (omega (arith, c.requires))) c.write_columns-after_columns.ensures) in
    let slack : let a = c.args in Wrote a.out.now a.at (([] ++ columns_text (row_values a.row)) ++ slack_text a.row.slack) c.write_slack-after_slack.new.out c.write_slack-after_slack.result = (wrote_more (slack_text c.args.row.slack) (columns) (rw (to_z-of_z (slack-fits)) at c.write_slack-after_slack.ensures)) in
    let row : let a = c.args in Wrote a.out.now a.at (line_text (integers a.row)) c.write_bytes.new.out c.write_bytes.result = (rw (← row_pieces c.args.row) (wrote_more line_end (slack) c.write_bytes.ensures)) in
    (row.place, row.list)
