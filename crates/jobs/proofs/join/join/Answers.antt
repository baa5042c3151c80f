-- `join` answers `join_of`: a refusal of the old set refuses the joined records. Assumes nothing.
use Rattle.std.proofs.lemmas.Result.{err_from_is_err_and}
use Rattle.jobs.proofs.Checks.{append_refused}
use Rattle.jobs.proofs.Joins.{join_refused}
use Rattle.jobs.specs.Jobs.{jobs_of}
use Rattle.jobs.specs.Joins.{with_chain}
use mathlib.Core.List.{[]}
use mathlib.Core.Path.{sym, ◌∙◌}
use Rattle.jobs.proofs.join.join.Goals as goal

pub returns-in_err-check_records : goal.returns-in_err-check_records
unfolding with_chain
returns-in_err-check_records c =
    let o = c.args.old in
    let p = err_from_is_err_and c.from_residual.result c.from_residual.ensures.1 in
    rw (p.1, p.2) (sym (join_refused o c.args.new _ (append_refused [] (jobs_of o) _ _ (sym c.check_records.ensures ∙ c.in_err-check_records.was))))

pub append-requires : goal.append-requires
append-requires c = sym c.check_records.ensures ∙ c.in_ok-check_records.was
