-- `entries_length` answers the length of the entries' lines. The loop's invariant: the sum is that of the first n rows. Assumes nothing.
use Prim.Native.Nat.{◌≤◌}
use Rattle.laws.proofs.Pieces.{summed_none, summed_more, summed_end}
use Rattle.report.proofs.EntryTexts.{part_row, part_few}
use Rattle.report.specs.Texts.{entry_row}
use Rattle.texts.proofs.Lines.{lines_made}
use borrow.Author.Rules.{rules}
use native.Mathlib.Omega.{arith}
use Rattle.report.proofs.entries.entries_length.Goals as goal

pub loop-n-init : goal.loop-n-init
loop-n-init c = let a = c.args in summed_none (lines_made (entry_row a.numbers.now) a.count) 86

pub overflow_mul-from : goal.overflow_mul-from
overflow_mul-from c = search (rules, c.requires.1)

pub overflow_add-to : goal.overflow_add-to
overflow_add-to c = search (rules, c.requires.1)

pub slice_bounds-line_length-end : goal.slice_bounds-line_length-end
slice_bounds-line_length-end c = search (rules, c.requires.0)

pub line_length-sum-requires : goal.line_length-sum-requires
line_length-sum-requires c =
    omega (arith, part_few c.args.numbers.now c.loop-n.n)

pub overflow_add-sum : goal.overflow_add-sum
overflow_add-sum c =
    let within : c.line_length-sum.result ≤ 86 = (omega (arith, c.line_length-sum.ensures.1, part_few c.args.numbers.now c.loop-n.n)) in
    search (rules, within, c.loop-n.invariant.within, c.requires.1)

pub loop-n-preserved : goal.loop-n-preserved
loop-n-preserved c =
    let within : c.line_length-sum.result ≤ 86 = (omega (arith, c.line_length-sum.ensures.1, part_few c.args.numbers.now c.loop-n.n)) in
    let size = rw (part_row c.args.numbers.now c.loop-n.n) at c.line_length-sum.ensures.0 in
    summed_more c.loop-n.invariant c.line_length-sum.result c.loop-n-test.true (size, within)

pub returns : goal.returns
returns c =
    let summed = summed_end c.loop-n.invariant c.loop-n-test.false in
    (summed.0, omega (arith, summed.1, c.requires.1))
