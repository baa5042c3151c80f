-- `write_slack` leaves a comma and the slack at the place. Assumes nothing.
use Prim.Native.Nat.{◌+◌, ◌-◌}
use Rattle.decimal.specs.Digits.{signed}
use Rattle.laws.proofs.Buffers.{Wrote, wrote_length}
use Rattle.report.proofs.ColumnWrites.{comma_written}
use Rattle.report.proofs.RowTexts.{slack_text, slack_is, slack-length}
use borrow.Author.Rules.{rules}
use borrow.Rule.Slice.PartMut.{put_mid}
use lib.ListN.{length, set, length-set}
use mir.Facts.{to_z-of_z}
use native.Mathlib.Omega.{arith}
use Rattle.report.proofs.row.write_slack.Goals as goal

pub bounds-out-at : goal.bounds-out-at
bounds-out-at c = omega (arith, c.requires, slack-length c.args.slack)

pub slice_bounds-write_signed-count : goal.slice_bounds-write_signed-count
slice_bounds-write_signed-count c = omega (arith, c.requires, slack-length c.args.slack, length-set c.args.out.now c.args.at 44)

pub slice_bounds-write_signed-start : goal.slice_bounds-write_signed-start
slice_bounds-write_signed-start c = omega (arith, c.requires, slack-length c.args.slack, length-set c.args.out.now c.args.at 44)

pub overflow_add-result : goal.overflow_add-result
overflow_add-result c =
    let wrote : Wrote c.args.out.now c.args.at (slack_text c.args.slack) (put_mid (c.args.at + 1) (length (set c.args.out.now c.args.at 44) - (c.args.at + 1)) (set c.args.out.now c.args.at 44) c.write_signed.new.rest) (c.args.at + 1 + c.write_signed.result) = (rw (slack_is c.args.slack) (comma_written (signed c.args.slack) c.args.out.now c.args.at (rw (slack_is c.args.slack) at c.requires) (rw (to_z-of_z c.ranges.slack) at c.write_signed.ensures))) in
    let w = wrote.place in let h = c.requires in search (rules, w, h)

pub shape_of-out : goal.shape_of-out
shape_of-out c =
    let wrote : Wrote c.args.out.now c.args.at (slack_text c.args.slack) (put_mid (c.args.at + 1) (length (set c.args.out.now c.args.at 44) - (c.args.at + 1)) (set c.args.out.now c.args.at 44) c.write_signed.new.rest) (c.args.at + 1 + c.write_signed.result) = (rw (slack_is c.args.slack) (comma_written (signed c.args.slack) c.args.out.now c.args.at (rw (slack_is c.args.slack) at c.requires) (rw (to_z-of_z c.ranges.slack) at c.write_signed.ensures))) in
    let h = wrote_length (wrote) c.requires in search (rules, h)

pub returns : goal.returns
returns c =
    let wrote : Wrote c.args.out.now c.args.at (slack_text c.args.slack) (put_mid (c.args.at + 1) (length (set c.args.out.now c.args.at 44) - (c.args.at + 1)) (set c.args.out.now c.args.at 44) c.write_signed.new.rest) (c.args.at + 1 + c.write_signed.result) = (rw (slack_is c.args.slack) (comma_written (signed c.args.slack) c.args.out.now c.args.at (rw (slack_is c.args.slack) at c.requires) (rw (to_z-of_z c.ranges.slack) at c.write_signed.ensures))) in
    (wrote.place, wrote.list)
