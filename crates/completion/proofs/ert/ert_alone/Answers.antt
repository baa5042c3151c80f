-- `ert_alone` answers the bounds of `ert_of`: the set's refusal, or its bounds. Assumes nothing.
use Rattle.completion.proofs.Counting.{lent_by}
use Rattle.completion.proofs.Lent.{Lends, lends}
use Rattle.completion.proofs.Passing.{ert_alone_is}
use Rattle.jobs.specs.Limits.{max_jobs}
use Rattle.laws.specs.Words.{padded}
use Rattle.std.specs.Prelude.{Ok}
use borrow.Author.Rules.{rules}
use mathlib.Core.Path.{sym, ap, ◌∙◌}
use Rattle.completion.proofs.ert.ert_alone.Goals.{After-of-table}
use Rattle.completion.proofs.ert.ert_alone.Goals as goal

-- what the table of the accepted set holds
held : (c : After-of-table) → Lends c.args.set (lent_by c.of-table.result)
held c = lends c.args.set (sym c.check.ensures ∙ c.in_ok-check.was) (lent_by c.of-table.result) c.of-table.ensures

pub returns-in_err-check : goal.returns-in_err-check
returns-in_err-check c = rw (ert_alone_is c.args.set, sym c.check.ensures, c.in_err-check.was) (search rules)

pub returns : goal.returns
returns c =
    rw (ert_alone_is c.args.set, sym c.check.ensures, c.in_ok-check.was, c.by_rule.ensures) (ap (λ bounds. Ok (padded max_jobs 0 bounds)) (held c.before.before).by_ert)
