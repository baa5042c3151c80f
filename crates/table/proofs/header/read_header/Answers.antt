-- `read_header` answers whether the line ends behind the header, and its bytes. Assumes nothing.
use Rattle.std.proofs.lemmas.Bool.Decides.{Decides-eqb}
use Rattle.std.proofs.lemmas.Slice.Eq.{strip_prefix_is}
use Rattle.table.proofs.Headers.{behind_not, behind_here, behind-longer, prefix_off, prefix_other}
use mathlib.Core.Path.{sym, ◌∙◌}
use Rattle.table.proofs.header.read_header.Goals as goal

pub returns-in_err-behind : goal.returns-in_err-behind
returns-in_err-behind c =
    let a = c.args in
    let off = rw c.in_err-behind.was at (strip_prefix_is Decides-eqb a.text.now a.header.now c.strip_prefix.result c.strip_prefix.ensures.cases) in
    c.from_residual.ensures ∙ behind_not a.header.now a.text.now (prefix_other a.header.now a.text.now off)

pub returns-in_err-length : goal.returns-in_err-length
returns-in_err-length c =
    let a = c.args in
    let off = rw c.in_ok-behind.was at (strip_prefix_is Decides-eqb a.text.now a.header.now c.strip_prefix.result c.strip_prefix.ensures.cases) in
    let line_end = rw c.in_ok-behind.ensures.cases.1 at c.read_end.ensures in
    c.from_residual-in_err-length.ensures ∙ behind-longer a.header.now a.text.now (prefix_off a.header.now a.text.now _ off) (sym line_end ∙ c.in_err-length.was)

pub returns : goal.returns
returns c =
    let a = c.args in
    let off = rw c.in_ok-behind.was at (strip_prefix_is Decides-eqb a.text.now a.header.now c.strip_prefix.result c.strip_prefix.ensures.cases) in
    let line_end = rw c.in_ok-behind.ensures.cases.1 at c.read_end.ensures in
    behind_here a.header.now a.text.now (prefix_off a.header.now a.text.now _ off) _ (sym line_end ∙ c.in_ok-length.was)
