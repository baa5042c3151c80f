-- `read_recording` answers `recording_of`. Assumes nothing.
use Rattle.std.proofs.lemmas.Result.{err_from_is_err_and}
use Rattle.jobs.specs.Jobs.{jobs_of}
use Rattle.laws.proofs.Lists.{rest_is}
use Rattle.recording.proofs.Headers.{set_refused, no_header, under-header}
use borrow.Author.Rules.{rules}
use mathlib.Core.Path.{sym, ◌∙◌}
use Rattle.recording.proofs.reading.read_recording.Goals as goal

pub returns-in_err-check : goal.returns-in_err-check
returns-in_err-check c =
    let p = err_from_is_err_and c.from_residual.result c.from_residual.ensures.1 in
    rw (p.1, p.2) (set_refused _ _ _ (sym c.check.ensures ∙ c.in_err-check.was))

pub returns-in_default : goal.returns-in_default
returns-in_default c =
    let passed = sym c.check.ensures ∙ c.in_ok-check.was in
    no_header _ _ passed (sym c.read_header.ensures ∙ c.in_default.is)

pub slice_bounds-read_rows-count : goal.slice_bounds-read_rows-count
slice_bounds-read_rows-count c =
    let passed = sym c.check.ensures ∙ c.in_ok-check.was in
    let behind = let a = c.args in under-header (jobs_of a.set) a.text.now passed _ (sym c.read_header.ensures ∙ c.in-Some.is) in
    let h = behind.0 in search (rules, h)

pub slice_bounds-read_rows-start : goal.slice_bounds-read_rows-start
slice_bounds-read_rows-start c =
    let passed = sym c.check.ensures ∙ c.in_ok-check.was in
    let behind = let a = c.args in under-header (jobs_of a.set) a.text.now passed _ (sym c.read_header.ensures ∙ c.in-Some.is) in
    let h = behind.0 in search (rules, h)

pub read_rows-requires : goal.read_rows-requires
read_rows-requires c =
    let passed = sym c.check.ensures ∙ c.in_ok-check.was in
    passed

pub returns : goal.returns
returns c =
    let passed = sym c.check.ensures ∙ c.in_ok-check.was in
    let behind = let a = c.args in under-header (jobs_of a.set) a.text.now passed _ (sym c.read_header.ensures ∙ c.in-Some.is) in
    rw (rest_is c.in-Some.length c.args.text.now) at c.read_rows.ensures ∙ behind.1
