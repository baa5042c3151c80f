-- `read_end` answers whether the first line is empty, and the bytes of its end. Assumes nothing.
use Rattle.std.proofs.lemmas.Bool.Decides.{Decides-eqb}
use Rattle.std.proofs.lemmas.Slice.Eq.{starts_is}
use Rattle.table.proofs.Lines.{end_none, end_break, end_other}
use borrow.Author.Tests.{eqb-true, eqb-false}
use mathlib.Core.Bool.{true≢false}
use mathlib.Core.List.{[], ◌∷◌}
use mathlib.Core.Path.{sym, ◌∙◌}
use Rattle.table.proofs.line.read_end.Goals as goal

pub returns-then-is_empty : goal.returns-then-is_empty
returns-then-is_empty c = sym (end_none c.args.rest.now (eqb-true _ _ (sym c.is_empty.ensures ∙ c.if-is_empty.true)))

pub returns-then-starts_with : goal.returns-then-starts_with
returns-then-starts_with c =
    let starts = starts_is Decides-eqb c.args.rest.now (13 ∷ 10 ∷ []) c.starts_with.result c.starts_with.ensures.value in
    sym (end_break c.args.rest.now _ (starts.0 c.if-starts_with.true))

pub returns : goal.returns
returns c =
    let starts = starts_is Decides-eqb c.args.rest.now (13 ∷ 10 ∷ []) c.starts_with.result c.starts_with.ensures.value in
    sym
    (end_other c.args.rest.now (eqb-false _ _ (sym c.is_empty.ensures ∙ c.if-is_empty.false))
    (λ rest e. true≢false (sym (starts.1 rest e) ∙ c.if-starts_with.false)))
