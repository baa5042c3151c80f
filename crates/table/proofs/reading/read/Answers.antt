-- `read` answers `reading_of`. Assumes nothing.
use Rattle.laws.proofs.Lists.{rest_is}
use Rattle.table.proofs.Tables.{too_long, no_header, under-header}
use borrow.Author.Rules.{rules}
use mathlib.Core.Path.{sym, ◌∙◌}
use Rattle.table.proofs.reading.read.Goals as goal

pub returns-then-text-gt-MAX_TEXT : goal.returns-then-text-gt-MAX_TEXT
returns-then-text-gt-MAX_TEXT c = too_long _ c.if-text-gt-MAX_TEXT.true

pub returns-in_default : goal.returns-in_default
returns-in_default c = no_header _ c.if-text-gt-MAX_TEXT.false (sym c.read_header.ensures ∙ c.in_default.is)

pub slice_bounds-read_records-count : goal.slice_bounds-read_records-count
slice_bounds-read_records-count c =
    let behind = under-header c.args.text.now c.if-text-gt-MAX_TEXT.false _ (sym c.read_header.ensures ∙ c.in-Some.is) in
    let h = behind.0 in search (rules, h)

pub slice_bounds-read_records-start : goal.slice_bounds-read_records-start
slice_bounds-read_records-start c =
    let behind = under-header c.args.text.now c.if-text-gt-MAX_TEXT.false _ (sym c.read_header.ensures ∙ c.in-Some.is) in
    let h = behind.0 in search (rules, h)

pub returns : goal.returns
returns c =
    let behind = under-header c.args.text.now c.if-text-gt-MAX_TEXT.false _ (sym c.read_header.ensures ∙ c.in-Some.is) in
    rw (rest_is c.in-Some.length c.args.text.now) at c.read_records.ensures ∙ behind.1
