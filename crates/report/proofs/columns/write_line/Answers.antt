-- `write_line` leaves the columns and CR LF at the place. Assumes nothing.
use Rattle.laws.proofs.Buffers.{Wrote, wrote_none, wrote_more, wrote_room, wrote_length}
use Rattle.report.proofs.ColumnTexts.{columns_text}
use Rattle.texts.proofs.Lines.{line_end, line_text, line_is, line_length_lem}
use borrow.Author.Rules.{rules}
use lib.IntN.{pos}
use mathlib.Core.List.{[], ◌++◌, map}
use native.Mathlib.Omega.{arith}
use Rattle.report.proofs.columns.write_line.Goals as goal

pub write_columns-after_columns-requires : goal.write_columns-after_columns-requires
write_columns-after_columns-requires c =
    omega (arith, c.requires, line_length_lem (map pos c.args.values.now))

pub write_bytes-requires : goal.write_bytes-requires
write_bytes-requires c =
    let columns : let a = c.args in Wrote a.out.now a.at ([] ++ columns_text a.values.now) c.write_columns-after_columns.new.out c.write_columns-after_columns.result = (wrote_more (columns_text c.args.values.now) (wrote_none c.args.out.now c.args.at (omega (arith, c.requires))) c.write_columns-after_columns.ensures) in
    wrote_room line_end (columns) (omega (arith, c.requires, line_length_lem (map pos c.args.values.now)))

pub shape_of-out : goal.shape_of-out
shape_of-out c =
    let columns : let a = c.args in Wrote a.out.now a.at ([] ++ columns_text a.values.now) c.write_columns-after_columns.new.out c.write_columns-after_columns.result = (wrote_more (columns_text c.args.values.now) (wrote_none c.args.out.now c.args.at (omega (arith, c.requires))) c.write_columns-after_columns.ensures) in
    let line : let a = c.args in Wrote a.out.now a.at (line_text (map pos a.values.now)) c.write_bytes.new.out c.write_bytes.result = (rw (line_is (map pos c.args.values.now)) (wrote_more line_end (columns) c.write_bytes.ensures)) in
    search (rules, wrote_length (line) c.requires)

pub returns : goal.returns
returns c =
    let columns : let a = c.args in Wrote a.out.now a.at ([] ++ columns_text a.values.now) c.write_columns-after_columns.new.out c.write_columns-after_columns.result = (wrote_more (columns_text c.args.values.now) (wrote_none c.args.out.now c.args.at (omega (arith, c.requires))) c.write_columns-after_columns.ensures) in
    let line : let a = c.args in Wrote a.out.now a.at (line_text (map pos a.values.now)) c.write_bytes.new.out c.write_bytes.result = (rw (line_is (map pos c.args.values.now)) (wrote_more line_end (columns) c.write_bytes.ensures)) in
    (line.place, line.list)
