-- `ert` answers `ert_of`: the set's refusal, or its bounds and what they come from. Assumes nothing.
use Rattle.completion.proofs.Counting.{lent_by}
use Rattle.completion.proofs.Naming.{all_ert}
use Rattle.completion.proofs.Passing.{ert_answered}
use Rattle.completion.specs.Answers.{ert_of}
use Rattle.completion.specs.Delays.{no_delay}
use Rattle.jobs.specs.Checks.{check_of}
use Rattle.jobs.specs.Jobs.{jobs_of}
use Rattle.jobs.specs.Limits.{max_jobs}
use Rattle.laws.specs.Words.{padded}
use Rattle.std.specs.Prelude.{Ok}
use Rattle.theory.specs.Bounds.{ert}
use Rattle.theory.specs.Table.{table_of}
use mathlib.Core.Path.{◌≡◌, sym, ap, ◌∙◌}
use Rattle.completion.proofs.named.ert.Goals.{In_ok-bounds}
use Rattle.completion.proofs.named.ert.Goals as goal

-- the set is accepted, with its bounds
accepts : (c : In_ok-bounds) → (check_of (jobs_of c.args.set) ≡ Ok tt) × (c.in_ok-bounds.bounds ≡ padded max_jobs 0 (ert (table_of (jobs_of c.args.set))))
accepts c = ert_answered _ _ (sym c.in_ok-bounds.was ∙ c.ert_alone.ensures)

pub of-table-requires : goal.of-table-requires
of-table-requires c = (accepts c).0

pub numbers_of-numbers-requires : goal.numbers_of-numbers-requires
numbers_of-numbers-requires c = (accepts c.before).0

pub returns : goal.returns
unfolding ert_of
returns c =
    let accepted = accepts c.before.before.before.before.before in
    let each = all_ert c.args.set (lent_by c.of-table.result) c.of-table.ensures c.numbers_of-numbers.result c.numbers_of-numbers.ensures in
    let delays = c.ert_delays.ensures ∙ ap (padded max_jobs no_delay) each in
    rw (accepted.0, accepted.1, delays)
