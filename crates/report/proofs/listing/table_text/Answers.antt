-- `table_text` answers `table_answer` and leaves `table_left`. Assumes nothing.
use Prim.Native.Nat.{ℕ, ◌+◌, ◌≤◌, ◌<◌}
use Rattle.jobs.proofs.Accepted.{accepted}
use Rattle.jobs.proofs.Sets.{length_jobs}
use Rattle.jobs.specs.Checks.{check_of}
use Rattle.jobs.specs.Jobs.{jobs_of}
use Rattle.jobs.specs.Limits.{max_jobs}
use Rattle.std.specs.Prelude.{Ok}
use Rattle.laws.proofs.Buffers.{Wrote, wrote_none, wrote_more, wrote_room, wrote_length, written_short}
use Rattle.laws.specs.Words.{ascii}
use Rattle.report.specs.Listing.{table_row, table_text, table_answer, table_left}
use Rattle.table.specs.Tables.{header}
use Rattle.texts.proofs.TextAnswers.{answer_short, answer_fits}
use Rattle.texts.proofs.Wholes.{wrote_whole}
use Rattle.texts.specs.Lines.{lines_text}
use borrow.Author.Rules.{rules}
use lib.ListN.{length, length-append}
use mathlib.Core.List.{List, [], ◌++◌, map}
use mathlib.Core.Path.{◌≡◌, sym, ◌∙◌}
use native.Mathlib.Omega.{arith}
use Rattle.report.proofs.listing.table_text.Goals as goal

-- the text up to the first job, the lines of the jobs, and the whole text
abbrev header_line : List ℕ
header_line = header ++ ascii "\r\n"

pub returns-in-Err : goal.returns-in-Err
unfolding table_answer table_left
returns-in-Err c =
    let refused = sym c.check.ensures ∙ c.in-Err.is in
    (rw refused, rw refused)

pub jobs_length-requires : goal.jobs_length-requires
jobs_length-requires c =
    let passed : check_of (jobs_of c.args.set) ≡ Ok tt = (sym c.check.ensures ∙ c.in_default.is) in
    let few : c.args.set.count ≤ max_jobs = (let s = c.args.set in
    omega (arith, length_jobs s, (accepted (jobs_of s) (passed)).few)) in
    few

pub overflow_add-length-2 : goal.overflow_add-length-2
overflow_add-length-2 c = search (rules, c.jobs_length.ensures.1)

pub returns-then-out-length : goal.returns-then-out-length
unfolding table_answer table_left table_text
returns-then-out-length c =
    let job_lines : List ℕ = (lines_text (map table_row (jobs_of c.args.set))) in
    let text : List ℕ = (header_line ++ job_lines) in
    let passed : check_of (jobs_of c.args.set) ≡ Ok tt = (sym c.check.ensures ∙ c.in_default.is) in
    let length-is : length (text) ≡ length header_line + c.jobs_length.result = (omega (arith, length-append header_line (job_lines), c.jobs_length.ensures.0)) in
    let short : length c.args.out.now < length (text) = omega (arith, length-is, c.if-out-length.true) in
    rw (passed) (answer_short (text) c.args.out.now short, sym (written_short (text) c.args.out.now short))

pub write_bytes-at-requires : goal.write_bytes-at-requires
write_bytes-at-requires c =
    let job_lines : List ℕ = (lines_text (map table_row (jobs_of c.args.set))) in
    let text : List ℕ = (header_line ++ job_lines) in
    let length-is : length (text) ≡ length header_line + c.jobs_length.result = (omega (arith, length-append header_line (job_lines), c.jobs_length.ensures.0)) in
    let fits : length (text) ≤ length c.args.out.now = (omega (arith, length-is, c.if-out-length.false)) in
    let after-header : Wrote c.args.out.now 0 ([] ++ header) c.write_bytes-after_header.new.out c.write_bytes-after_header.result = (wrote_more header (wrote_none c.args.out.now 0 (omega arith)) c.write_bytes-after_header.ensures) in
    wrote_room (ascii "\r\n") (after-header) (omega (arith, fits, length-append header_line (job_lines)))

pub write_jobs-requires : goal.write_jobs-requires
write_jobs-requires c =
    let job_lines : List ℕ = (lines_text (map table_row (jobs_of c.args.set))) in
    let text : List ℕ = (header_line ++ job_lines) in
    let passed : check_of (jobs_of c.args.set) ≡ Ok tt = (sym c.check.ensures ∙ c.in_default.is) in
    let few : c.args.set.count ≤ max_jobs = (let s = c.args.set in
    omega (arith, length_jobs s, (accepted (jobs_of s) (passed)).few)) in
    let length-is : length (text) ≡ length header_line + c.jobs_length.result = (omega (arith, length-append header_line (job_lines), c.jobs_length.ensures.0)) in
    let fits : length (text) ≤ length c.args.out.now = (omega (arith, length-is, c.if-out-length.false)) in
    let after-header : Wrote c.args.out.now 0 ([] ++ header) c.write_bytes-after_header.new.out c.write_bytes-after_header.result = (wrote_more header (wrote_none c.args.out.now 0 (omega arith)) c.write_bytes-after_header.ensures) in
    let after-end : Wrote c.args.out.now 0 header_line c.write_bytes-at.new.out c.write_bytes-at.result = (wrote_more (ascii "\r\n") (after-header) c.write_bytes-at.ensures) in
    let lines = job_lines in
    record { count_le_max_jobs = few; lines_in_bounds = wrote_room lines after-end (omega (arith, fits, length-append header_line lines)) }

pub overflow_cast-result : goal.overflow_cast-result
overflow_cast-result c = search (rules, c.jobs_length.ensures.1)

pub shape_of-out : goal.shape_of-out
shape_of-out c =
    let job_lines : List ℕ = (lines_text (map table_row (jobs_of c.args.set))) in
    let text : List ℕ = (header_line ++ job_lines) in
    let length-is : length (text) ≡ length header_line + c.jobs_length.result = (omega (arith, length-append header_line (job_lines), c.jobs_length.ensures.0)) in
    let fits : length (text) ≤ length c.args.out.now = (omega (arith, length-is, c.if-out-length.false)) in
    let after-header : Wrote c.args.out.now 0 ([] ++ header) c.write_bytes-after_header.new.out c.write_bytes-after_header.result = (wrote_more header (wrote_none c.args.out.now 0 (omega arith)) c.write_bytes-after_header.ensures) in
    let after-end : Wrote c.args.out.now 0 header_line c.write_bytes-at.new.out c.write_bytes-at.result = (wrote_more (ascii "\r\n") (after-header) c.write_bytes-at.ensures) in
    let after-jobs : Wrote c.args.out.now 0 (text) c.write_jobs.new.out c.write_jobs.result = (wrote_more (job_lines) (after-end) c.write_jobs.ensures) in
    search (rules, wrote_length (after-jobs) (omega (arith, fits)))

pub returns : goal.returns
unfolding table_answer table_left table_text
returns c =
    let job_lines : List ℕ = (lines_text (map table_row (jobs_of c.args.set))) in
    let text : List ℕ = (header_line ++ job_lines) in
    let passed : check_of (jobs_of c.args.set) ≡ Ok tt = (sym c.check.ensures ∙ c.in_default.is) in
    let length-is : length (text) ≡ length header_line + c.jobs_length.result = (omega (arith, length-append header_line (job_lines), c.jobs_length.ensures.0)) in
    let fits : length (text) ≤ length c.args.out.now = (omega (arith, length-is, c.if-out-length.false)) in
    let after-header : Wrote c.args.out.now 0 ([] ++ header) c.write_bytes-after_header.new.out c.write_bytes-after_header.result = (wrote_more header (wrote_none c.args.out.now 0 (omega arith)) c.write_bytes-after_header.ensures) in
    let after-end : Wrote c.args.out.now 0 header_line c.write_bytes-at.new.out c.write_bytes-at.result = (wrote_more (ascii "\r\n") (after-header) c.write_bytes-at.ensures) in
    let after-jobs : Wrote c.args.out.now 0 (text) c.write_jobs.new.out c.write_jobs.result = (wrote_more (job_lines) (after-end) c.write_jobs.ensures) in
    rw (passed) (answer_fits (text) c.args.out.now _ (fits) (sym (length-is)), (wrote_whole (after-jobs) (fits)).1)
