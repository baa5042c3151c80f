-- `round` answers the theory's: for a chain alone the bounds that ITR starts from, else by a scan or a sweep. Assumes nothing.
use Rattle.completion.proofs.Counting.{lent_by}
use Rattle.jobs.specs.Limits.{max_jobs}
use Rattle.laws.specs.Words.{padded}
use Rattle.theory.proofs.AloneChain.{round-alone, ended-alone}
use mathlib.Core.Path.{sym, ap, ◌∙◌}
use Rattle.completion.proofs.round.round.Goals as goal

pub returns-then-end-table : goal.returns-then-end-table
returns-then-end-table c =
    let a = c.args in
    let t = a.table.now in
    let one = ended-alone t.count t.columns t.ended (sym c.end.ensures ∙ c.if-end-table.true) in
    (c.start.ensures ∙ ap (padded max_jobs 0) (sym (round-alone (lent_by t) one a.bound.now)), c.requires.1)
