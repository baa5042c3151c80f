-- `read_rows` answers `rows_from`. The loop's invariant: the lines so far are rows of the recording, and what follows them decides.
-- Assumes nothing.
use Prim.Native.Nat.{ℕ}
use Rattle.jobs.proofs.Sets.{length_jobs}
use Rattle.laws.proofs.Lists.{rest_is}
use Rattle.recording.proofs.RowsRead.{rows_none, rows_end, rows_many, rows_malformed, rows_refused, rows_forward, rows-within, rows_next}
use Rattle.recording.specs.Reading.{columns, is_next_row}
use Rattle.table.specs.Lines.{line_of}
use borrow.Author.Rules.{rules}
use mathlib.Core.Path.{sym, ap, ◌∙◌}
use native.Mathlib.Omega.{arith}
use Rattle.recording.proofs.reading.read_rows.Goals as goal

pub loop-at-init : goal.loop-at-init
loop-at-init c = rows_none _ _ _ _ c.empty-recording.ensures c.none-last.ensures

pub returns-then-n-ge-MAX_ROWS : goal.returns-then-n-ge-MAX_ROWS
returns-then-n-ge-MAX_ROWS c = rows_many c.loop-at.invariant c.loop-at-test.true c.if-n-ge-MAX_ROWS.true

pub returns-in_default : goal.returns-in_default
returns-in_default c =
    let is_line = c.read_line.ensures ∙ ap (line_of columns) (rest_is c.loop-at.at c.args.rest.now) in
    rows_malformed c.loop-at.invariant c.loop-at-test.true c.if-n-ge-MAX_ROWS.false is_line _ c.in_default.is

pub row_of-row-requires : goal.row_of-row-requires
row_of-row-requires c = c.requires

pub returns-then-not-is_next_row : goal.returns-then-not-is_next_row
returns-then-not-is_next_row c =
    let is_line = c.read_line.ensures ∙ ap (line_of columns) (rest_is c.loop-at.at c.args.rest.now) in
    let is_next = ap (λ (jobs : ℕ). is_next_row jobs c.loop-at.recording.count c.loop-at.last c.row_of-row.result) (length_jobs c.args.set) ∙ sym c.is_next_row.ensures in
    let l = c.loop-at in
    let h = c.loop-at-test.true in
    let room = c.if-n-ge-MAX_ROWS.false in
    let fails = is_next ∙ c.if-not-is_next_row.true in
    rows_refused l.invariant h room is_line c.in-Ok.is _ c.row_of-row.ensures fails

pub overflow_add-at : goal.overflow_add-at
overflow_add-at c =
    let is_line = c.read_line.ensures ∙ ap (line_of columns) (rest_is c.loop-at.at c.args.rest.now) in
    let w = rows-within c.loop-at.invariant c.loop-at-test.true c.if-n-ge-MAX_ROWS.false is_line c.in-Ok.is in
    search (rules, w)

pub loop-at-smaller : goal.loop-at-smaller
loop-at-smaller c =
    let is_line = c.read_line.ensures ∙ ap (line_of columns) (rest_is c.loop-at.at c.args.rest.now) in
    let l = c.loop-at in
    let h = c.loop-at-test.true in
    let room = c.if-n-ge-MAX_ROWS.false in
    let f = rows_forward l.invariant h room is_line c.in-Ok.is in
    let w = rows-within l.invariant h room is_line c.in-Ok.is in
    omega (arith, f, w)

pub loop-at-preserved : goal.loop-at-preserved
loop-at-preserved c =
    let is_line = c.read_line.ensures ∙ ap (line_of columns) (rest_is c.loop-at.at c.args.rest.now) in
    let is_next = ap (λ (jobs : ℕ). is_next_row jobs c.loop-at.recording.count c.loop-at.last c.row_of-row.result) (length_jobs c.args.set) ∙ sym c.is_next_row.ensures in
    let l = c.loop-at in
    let h = c.loop-at-test.true in
    let room = c.if-n-ge-MAX_ROWS.false in
    let holds = is_next ∙ c.if-not-is_next_row.false in
    rows_next l.invariant h room is_line c.in-Ok.is _ c.row_of-row.ensures holds

pub returns : goal.returns
returns c = rows_end c.loop-at.invariant c.loop-at-test.false
