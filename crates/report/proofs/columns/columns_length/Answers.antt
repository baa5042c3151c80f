-- `columns_length` answers the length of the columns. The loop's invariant: the sum is that of the first k columns. Assumes nothing.
use Prim.Native.Nat.{◌≤◌}
use Rattle.laws.proofs.Pieces.{summed_none, summed_more, summed_end}
use Rattle.report.proofs.ColumnTexts.{column-within}
use Rattle.report.proofs.ColumnWrites.{columns-made}
use borrow.Author.Rules.{rules}
use lib.ListN.{get_or}
use lib.Seq.{take-length}
use native.Mathlib.Omega.{arith}
use Rattle.report.proofs.columns.columns_length.Goals as goal

pub loop-k-init : goal.loop-k-init
loop-k-init c = summed_none (columns-made c.args.values.now) 21

pub overflow_add-sum : goal.overflow_add-sum
overflow_add-sum c =
    let within : c.column_length-sum.result ≤ 21 = (let l = c.loop-k in
    let value = get_or c.args.values.now l.k 0 in
    omega (arith, c.column_length-sum.ensures, column-within l.k value (omega (arith, c.type_inv.values l.k)))) in
    search (rules, within, c.loop-k.invariant.within)

pub loop-k-preserved : goal.loop-k-preserved
loop-k-preserved c =
    let within : c.column_length-sum.result ≤ 21 = (let l = c.loop-k in
    let value = get_or c.args.values.now l.k 0 in
    omega (arith, c.column_length-sum.ensures, column-within l.k value (omega (arith, c.type_inv.values l.k)))) in
    summed_more c.loop-k.invariant c.column_length-sum.result c.loop-k-test.true (c.column_length-sum.ensures, within)

pub returns : goal.returns
returns c = rw (take-length c.args.values.now) at (summed_end c.loop-k.invariant c.loop-k-test.false)
