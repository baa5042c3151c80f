-- `cja` answers `cja_of`: the set's refusal, or its bounds and what they come from. Assumes nothing.
use Rattle.completion.proofs.Counting.{lent_by}
use Rattle.completion.proofs.Lent.{Lends, lends}
use Rattle.completion.proofs.Naming.{all_cja}
use Rattle.completion.proofs.Passing.{cja_answered}
use Rattle.completion.specs.Answers.{cja_of}
use Rattle.completion.specs.Delays.{no_delay}
use Rattle.jobs.specs.Checks.{check_of}
use Rattle.jobs.specs.Jobs.{jobs_of}
use Rattle.jobs.specs.Limits.{max_jobs}
use Rattle.laws.specs.Words.{padded}
use Rattle.std.specs.Prelude.{Ok}
use Rattle.theory.proofs.Late.{round-late}
use Rattle.theory.specs.Bounds.{cja}
use Rattle.theory.specs.Table.{table_of}
use mathlib.Core.Path.{◌≡◌, sym, ap, ◌∙◌}
use Rattle.completion.proofs.named.cja.Goals.{In_ok-bounds, After-of-table}
use Rattle.completion.proofs.named.cja.Goals as goal

-- the set is accepted, with its bounds
accepts : (c : In_ok-bounds) → (check_of (jobs_of c.args.set) ≡ Ok tt) × (c.in_ok-bounds.bounds ≡ padded max_jobs 0 (cja (table_of (jobs_of c.args.set))))
accepts c = cja_answered _ _ (sym c.in_ok-bounds.was ∙ c.cja_alone.ensures)

-- what its table holds
held : (c : After-of-table) → Lends c.args.set (lent_by c.of-table.result)
held c = lends c.args.set (accepts c.before).0 (lent_by c.of-table.result) c.of-table.ensures

pub of-table-requires : goal.of-table-requires
of-table-requires c = (accepts c).0

pub numbers_of-numbers-requires : goal.numbers_of-numbers-requires
numbers_of-numbers-requires c = (accepts c.before).0

pub round_delays-requires : goal.round_delays-requires
round_delays-requires c =
    let at-table = c.before.before.before.before.before in
    let lent = held at-table in
    let late = ap (padded max_jobs 0) (sym (round-late _ at-table.of-table.result.fit ∙ lent.by_cja)) in
    (accepts at-table.before).1 ∙ late

pub returns : goal.returns
unfolding cja_of
returns c =
    let at-table = c.before.before.before.before.before.before in
    let accepted = accepts at-table.before in
    let each = all_cja c.args.set (lent_by c.of-table.result) c.of-table.ensures c.numbers_of-numbers.result c.numbers_of-numbers.ensures at-table.of-table.result.fit in
    let delays = c.round_delays.ensures ∙ ap (padded max_jobs no_delay) each in
    rw (accepted.0, accepted.1, delays)
