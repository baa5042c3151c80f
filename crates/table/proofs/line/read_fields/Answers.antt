-- `read_fields` answers the row of the first line. The loop's invariant: the fields so far are read, and what follows them decides. Assumes nothing.
use Rattle.laws.proofs.Lists.{rest_is}
use Rattle.table.proofs.Rows.{fields_malformed, fields_within, fields_next, fields_ended, fields_open}
use borrow.Author.Rules.{rules}
use mathlib.Core.Path.{sym, ◌∙◌}
use Rattle.table.proofs.line.read_fields.Goals as goal

pub returns-in_default : goal.returns-in_default
returns-in_default c =
    let column = rw (rest_is c.loop-k.at c.args.rest.now) at c.read_column.ensures in
    fields_malformed c.requires c.loop-k.invariant c.loop-k-test.true (sym column ∙ c.in_default.is)

pub overflow_add-at : goal.overflow_add-at
overflow_add-at c =
    let column = rw (rest_is c.loop-k.at c.args.rest.now) at c.read_column.ensures in
    let h = fields_within c.requires c.loop-k.invariant _ (sym column ∙ c.in-Some.is) in
    search (rules, h)

pub loop-k-preserved : goal.loop-k-preserved
loop-k-preserved c =
    let column = rw (rest_is c.loop-k.at c.args.rest.now) at c.read_column.ensures in
    fields_next c.requires c.loop-k.invariant _ c.loop-k-test.true (sym column ∙ c.in-Some.is)

pub returns-in_default-read_end : goal.returns-in_default-read_end
returns-in_default-read_end c =
    let line_end = rw (rest_is c.loop-k.at c.args.rest.now) at c.read_end.ensures in
    fields_open c.requires c.loop-k.invariant c.loop-k-test.false (sym line_end ∙ c.in_default-read_end.is)

pub returns : goal.returns
returns c =
    let line_end = rw (rest_is c.loop-k.at c.args.rest.now) at c.read_end.ensures in
    fields_ended c.requires c.loop-k.invariant _ c.loop-k-test.false (sym line_end ∙ c.in-Some-read_end.is)
