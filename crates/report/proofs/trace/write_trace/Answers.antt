-- `write_trace` leaves the header and the rows at the start of the buffer. Assumes nothing.
use Prim.Native.Nat.{ℕ, ◌+◌, ◌≤◌, ◌<◌}
use Rattle.laws.proofs.Buffers.{Wrote, wrote_none, wrote_more, wrote_room, wrote_length}
use Rattle.laws.proofs.Buffers.{written_short}
use Rattle.report.proofs.EntryTexts.{entries_text}
use Rattle.report.specs.Texts.{trace_header}
use Rattle.texts.proofs.TextAnswers.{answer_short, answer_fits}
use Rattle.texts.proofs.Wholes.{wrote_whole}
use borrow.Author.Rules.{rules}
use lib.ListN.{length, length-append}
use mathlib.Core.List.{List, [], ◌++◌}
use mathlib.Core.Path.{◌≡◌, sym}
use native.Mathlib.Omega.{arith}
use Rattle.report.proofs.trace.write_trace.Goals as goal

pub overflow_add-length : goal.overflow_add-length
overflow_add-length c = search (rules, c.entries_length-length.ensures.1)

pub returns-then-out-length : goal.returns-then-out-length
returns-then-out-length c =
    let rows_text : List ℕ = (entries_text c.args.numbers.now c.args.count) in
    let text : List ℕ = (trace_header ++ rows_text) in
    let length-is : length (text) ≡ 19 + c.entries_length-length.result = (omega (arith, length-append trace_header (rows_text), c.entries_length-length.ensures.0)) in
    let buffer = c.args.out.now in
    let short : length buffer < length (text) = omega (arith, length-is, c.if-out-length.true) in
    (answer_short (text) buffer short, sym (written_short (text) buffer short))

pub write_entries-requires : goal.write_entries-requires
write_entries-requires c =
    let rows_text : List ℕ = (entries_text c.args.numbers.now c.args.count) in
    let text : List ℕ = (trace_header ++ rows_text) in
    let length-is : length (text) ≡ 19 + c.entries_length-length.result = (omega (arith, length-append trace_header (rows_text), c.entries_length-length.ensures.0)) in
    let fits : length (text) ≤ length c.args.out.now = (omega (arith, length-is, c.if-out-length.false)) in
    let header : Wrote c.args.out.now 0 ([] ++ trace_header) c.write_bytes-at.new.out c.write_bytes-at.result = (wrote_more trace_header (wrote_none c.args.out.now 0 (omega arith)) c.write_bytes-at.ensures) in
    record { count_in_bounds = c.requires.0; rows_in_bounds = wrote_room rows_text header (omega (arith, fits, length-append trace_header rows_text)) }

pub overflow_cast-result : goal.overflow_cast-result
overflow_cast-result c = search (rules, c.entries_length-length.ensures.1)

pub shape_of-out : goal.shape_of-out
shape_of-out c =
    let rows_text : List ℕ = (entries_text c.args.numbers.now c.args.count) in
    let text : List ℕ = (trace_header ++ rows_text) in
    let length-is : length (text) ≡ 19 + c.entries_length-length.result = (omega (arith, length-append trace_header (rows_text), c.entries_length-length.ensures.0)) in
    let fits : length (text) ≤ length c.args.out.now = (omega (arith, length-is, c.if-out-length.false)) in
    let header : Wrote c.args.out.now 0 ([] ++ trace_header) c.write_bytes-at.new.out c.write_bytes-at.result = (wrote_more trace_header (wrote_none c.args.out.now 0 (omega arith)) c.write_bytes-at.ensures) in
    let rows : Wrote c.args.out.now 0 (text) c.write_entries.new.out c.write_entries.result = (wrote_more (rows_text) (header) c.write_entries.ensures) in
    search (rules, wrote_length (rows) (omega (arith, fits)))

pub returns : goal.returns
returns c =
    let rows_text : List ℕ = (entries_text c.args.numbers.now c.args.count) in
    let text : List ℕ = (trace_header ++ rows_text) in
    let length-is : length (text) ≡ 19 + c.entries_length-length.result = (omega (arith, length-append trace_header (rows_text), c.entries_length-length.ensures.0)) in
    let fits : length (text) ≤ length c.args.out.now = (omega (arith, length-is, c.if-out-length.false)) in
    let header : Wrote c.args.out.now 0 ([] ++ trace_header) c.write_bytes-at.new.out c.write_bytes-at.result = (wrote_more trace_header (wrote_none c.args.out.now 0 (omega arith)) c.write_bytes-at.ensures) in
    let rows : Wrote c.args.out.now 0 (text) c.write_entries.new.out c.write_entries.result = (wrote_more (rows_text) (header) c.write_entries.ensures) in
    let fit = fits in
    (answer_fits (text) c.args.out.now _ fit (sym (length-is)), (wrote_whole (rows) fit).1)
