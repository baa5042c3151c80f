-- `itr_alone` answers bounds and rounds of `itr_of`: the set's refusal, or both. Assumes nothing.
use Rattle.std.specs.Prelude.{Ok}
use Rattle.completion.proofs.Counting.{lent_by}
use Rattle.completion.proofs.Lent.{Lends, lends}
use Rattle.completion.proofs.Passing.{itr_alone_is}
use Rattle.completion.proofs.Rounding.{itr_passed}
use borrow.Author.Rules.{rules}
use mathlib.Core.Path.{sym, ap, ◌∙◌}
use Rattle.completion.proofs.itr.itr_alone.Goals.{After-of-table}
use Rattle.completion.proofs.itr.itr_alone.Goals as goal

-- what the table of the accepted set holds
held : (c : After-of-table) → Lends c.args.set (lent_by c.of-table.result)
held c = lends c.args.set (sym c.check.ensures ∙ c.in_ok-check.was) (lent_by c.of-table.result) c.of-table.ensures

pub returns-in_err-check : goal.returns-in_err-check
returns-in_err-check c = rw (itr_alone_is c.args.set, sym c.check.ensures, c.in_err-check.was) (search rules)

pub returns : goal.returns
returns c = rw (itr_alone_is c.args.set, sym c.check.ensures, c.in_ok-check.was, c.settle.ensures) (ap (λ answer. Ok (itr_passed answer)) (held c.before.before).by_itr)
