-- `write_column` leaves the column at the place. Assumes nothing.
use Prim.Native.Nat.{◌+◌, ◌-◌}
use Rattle.laws.proofs.Buffers.{Wrote, wrote_length}
use Rattle.report.proofs.ColumnTexts.{column_text, later-length}
use Rattle.report.proofs.ColumnWrites.{first_written, later-written}
use borrow.Author.Rules.{rules}
use borrow.Rule.Slice.PartMut.{put_mid}
use lib.ListN.{length, set, length-set}
use native.Mathlib.Omega.{arith}
use Rattle.report.proofs.columns.write_column.Goals as goal

pub overflow_add-result : goal.overflow_add-result
overflow_add-result c =
    let first : Wrote c.args.out.now c.args.at (column_text c.args.k c.args.value) (put_mid c.args.at (length c.args.out.now - c.args.at) c.args.out.now c.write_unsigned.new.rest) (c.args.at + c.write_unsigned.result) = (first_written c.args.k c.args.value c.args.out.now c.args.at c.requires c.if-k-eq0.true c.write_unsigned.ensures) in
    let w = first.place in let h = c.requires in search (rules, w, h)

pub returns-then-k-eq0 : goal.returns-then-k-eq0
returns-then-k-eq0 c =
    let first : Wrote c.args.out.now c.args.at (column_text c.args.k c.args.value) (put_mid c.args.at (length c.args.out.now - c.args.at) c.args.out.now c.write_unsigned.new.rest) (c.args.at + c.write_unsigned.result) = (first_written c.args.k c.args.value c.args.out.now c.args.at c.requires c.if-k-eq0.true c.write_unsigned.ensures) in
    (first.place, first.list)

pub bounds-out-at : goal.bounds-out-at
bounds-out-at c =
    omega (arith, c.requires, later-length c.args.k c.args.value c.if-k-eq0.false)

pub slice_bounds-write_unsigned-count-2 : goal.slice_bounds-write_unsigned-count-2
slice_bounds-write_unsigned-count-2 c =
    omega (arith, c.requires, later-length c.args.k c.args.value c.if-k-eq0.false, length-set c.args.out.now c.args.at 44)

pub slice_bounds-write_unsigned-start-2 : goal.slice_bounds-write_unsigned-start-2
slice_bounds-write_unsigned-start-2 c =
    omega (arith, c.requires, later-length c.args.k c.args.value c.if-k-eq0.false, length-set c.args.out.now c.args.at 44)

pub overflow_add-result-2 : goal.overflow_add-result-2
overflow_add-result-2 c =
    let later : Wrote c.args.out.now c.args.at (column_text c.args.k c.args.value) (put_mid (c.args.at + 1) (length (set c.args.out.now c.args.at 44) - (c.args.at + 1)) (set c.args.out.now c.args.at 44) c.write_unsigned-2.new.rest) (c.args.at + 1 + c.write_unsigned-2.result) = (later-written c.args.k c.args.value c.args.out.now c.args.at c.requires c.if-k-eq0.false c.write_unsigned-2.ensures) in
    let w = later.place in let h = c.requires in search (rules, w, h)

pub shape_of-out : goal.shape_of-out
shape_of-out c =
    let later : Wrote c.args.out.now c.args.at (column_text c.args.k c.args.value) (put_mid (c.args.at + 1) (length (set c.args.out.now c.args.at 44) - (c.args.at + 1)) (set c.args.out.now c.args.at 44) c.write_unsigned-2.new.rest) (c.args.at + 1 + c.write_unsigned-2.result) = (later-written c.args.k c.args.value c.args.out.now c.args.at c.requires c.if-k-eq0.false c.write_unsigned-2.ensures) in
    let h = wrote_length (later) c.requires in search (rules, h)

pub returns : goal.returns
returns c =
    let later : Wrote c.args.out.now c.args.at (column_text c.args.k c.args.value) (put_mid (c.args.at + 1) (length (set c.args.out.now c.args.at 44) - (c.args.at + 1)) (set c.args.out.now c.args.at 44) c.write_unsigned-2.new.rest) (c.args.at + 1 + c.write_unsigned-2.result) = (later-written c.args.k c.args.value c.args.out.now c.args.at c.requires c.if-k-eq0.false c.write_unsigned-2.ensures) in
    (later.place, later.list)
