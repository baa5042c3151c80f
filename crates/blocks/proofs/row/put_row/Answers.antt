-- `put_row` leaves as much of a row as fits. Assumes nothing.
use Rattle.blocks.proofs.RowTexts.{row_text, row-length}
use Rattle.laws.proofs.Clipped.{put-counted, put_then}
use Rattle.laws.specs.Words.{ascii}
use native.Mathlib.Omega.{arith}
use Rattle.blocks.proofs.row.put_row.Goals as goal

pub put_three-comma-requires : goal.put_three-comma-requires
put_three-comma-requires c =
    let a = c.args in
    let long = row-length a.job.chain a.job.job a.from a.other a.block.first a.block.last in
    omega (arith, c.requires, long)

pub overflow_add-second : goal.overflow_add-second
overflow_add-second c =
    let a = c.args in
    let long = row-length a.job.chain a.job.job a.from a.other a.block.first a.block.last in
    omega (arith, c.requires, long, c.put_three-comma.ensures.place, c.put_bytes.ensures.0)

pub put_three-end-requires : goal.put_three-end-requires
put_three-end-requires c =
    let a = c.args in
    let long = row-length a.job.chain a.job.job a.from a.other a.block.first a.block.last in
    omega (arith, c.requires, long, c.put_three-comma.ensures.place, c.put_bytes.ensures.0)

pub overflow_add-result : goal.overflow_add-result
overflow_add-result c =
    let a = c.args in
    let long = row-length a.job.chain a.job.job a.from a.other a.block.first a.block.last in
    omega (arith, c.requires, long, c.put_three-comma.ensures.place, c.put_bytes.ensures.0, c.put_three-end.ensures.place, c.put_bytes-2.ensures.0)

pub returns : goal.returns
returns c =
    let a = c.args in
    let comma = put-counted (ascii ",") c.put_three-comma.ensures c.put_bytes.ensures in
    let numbers = put_then comma c.put_three-end.ensures in
    rw (row_text a.job.chain a.job.job a.from a.other a.block.first a.block.last) (put-counted (ascii "\r\n") numbers c.put_bytes-2.ensures)
