-- `read_records` answers `records_from`. The loop's invariant: the lines so far are records of the set, and what follows them decides.
-- Assumes nothing.
use Rattle.std.proofs.lemmas.Result.{err_from_is_err_and}
use Rattle.jobs.proofs.Accepted.{record_fine}
use Rattle.jobs.specs.Checks.{record_check}
use Rattle.laws.proofs.Lists.{rest_is}
use Rattle.table.proofs.Records.{records_none, records_empty, records_end, records_malformed, records_refused, records_forward, records_within, records_next}
use Rattle.table.specs.Lines.{max_columns, line_of}
use borrow.Author.Rules.{rules}
use mathlib.Core.Path.{sym, ap, ◌∙◌}
use native.Mathlib.Omega.{arith}
use Rattle.table.proofs.reading.read_records.Goals as goal

pub loop-at-init : goal.loop-at-init
loop-at-init c = records_none _ _ _ c.empty-set.ensures c.none-last.ensures

pub returns-in_err-line : goal.returns-in_err-line
returns-in_err-line c =
    let is_line = c.read_line.ensures ∙ ap (line_of max_columns) (rest_is c.loop-at.at c.args.rest.now) in
    let l = c.loop-at in
    let h = c.loop-at-test.true in
    let p = err_from_is_err_and c.from_residual.result c.from_residual.ensures.1 in
    rw (p.1, p.2) (records_malformed l.invariant h is_line _ c.in_err-line.was)

pub returns-in_err-check_record : goal.returns-in_err-check_record
returns-in_err-check_record c =
    let is_line = c.read_line.ensures ∙ ap (line_of max_columns) (rest_is c.loop-at.at c.args.rest.now) in
    let is_check = sym (c.check_record.ensures ∙ ap (record_check c.loop-at.set.count c.loop-at.last) c.job_of-job.ensures) in
    let l = c.loop-at in
    let h = c.loop-at-test.true in
    let p = err_from_is_err_and c.from_residual-in_err-check_record.result c.from_residual-in_err-check_record.ensures.1 in
    rw (p.1, p.2) (records_refused l.invariant h is_line c.in_ok-line.was _ (is_check ∙ c.in_err-check_record.was))

pub offset_bounds-set-n : goal.offset_bounds-set-n
offset_bounds-set-n c =
    let is_check = sym (c.check_record.ensures ∙ ap (record_check c.loop-at.set.count c.loop-at.last) c.job_of-job.ensures) in
    let room = (record_fine _ _ _ (is_check ∙ c.in_ok-check_record.was)).room in
    let r = room in search (rules, r)

pub bounds-set-n : goal.bounds-set-n
bounds-set-n c =
    let is_check = sym (c.check_record.ensures ∙ ap (record_check c.loop-at.set.count c.loop-at.last) c.job_of-job.ensures) in
    let room = (record_fine _ _ _ (is_check ∙ c.in_ok-check_record.was)).room in
    room

pub overflow_add-set : goal.overflow_add-set
overflow_add-set c =
    let is_check = sym (c.check_record.ensures ∙ ap (record_check c.loop-at.set.count c.loop-at.last) c.job_of-job.ensures) in
    let room = (record_fine _ _ _ (is_check ∙ c.in_ok-check_record.was)).room in
    let r = room in search (rules, r)

pub overflow_add-at : goal.overflow_add-at
overflow_add-at c =
    let is_line = c.read_line.ensures ∙ ap (line_of max_columns) (rest_is c.loop-at.at c.args.rest.now) in
    let l = c.loop-at in
    let h = c.loop-at-test.true in
    let w = records_within l.invariant h is_line c.in_ok-line.was in
    search (rules, w)

pub loop-at-smaller : goal.loop-at-smaller
loop-at-smaller c =
    let is_line = c.read_line.ensures ∙ ap (line_of max_columns) (rest_is c.loop-at.at c.args.rest.now) in
    let l = c.loop-at in
    let h = c.loop-at-test.true in
    let f = records_forward l.invariant h is_line c.in_ok-line.was in
    let w = records_within l.invariant h is_line c.in_ok-line.was in
    omega (arith, f, w)

pub loop-at-preserved : goal.loop-at-preserved
loop-at-preserved c =
    let is_line = c.read_line.ensures ∙ ap (line_of max_columns) (rest_is c.loop-at.at c.args.rest.now) in
    let is_check = sym (c.check_record.ensures ∙ ap (record_check c.loop-at.set.count c.loop-at.last) c.job_of-job.ensures) in
    let l = c.loop-at in
    let h = c.loop-at-test.true in
    rw c.job_of-job.ensures (records_next l.invariant h is_line c.in_ok-line.was (is_check ∙ c.in_ok-check_record.was))

pub returns-then-set-eq0 : goal.returns-then-set-eq0
returns-then-set-eq0 c = let l = c.loop-at in records_empty l.invariant c.loop-at-test.false c.if-set-eq0.true

pub returns : goal.returns
returns c = let l = c.loop-at in records_end l.invariant c.loop-at-test.false (omega (arith, c.if-set-eq0.false))
