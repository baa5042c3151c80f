-- `itr` answers `itr_of`: the set's refusal, or its bounds and what they come from. Assumes nothing.
use Rattle.completion.proofs.Counting.{lent_by}
use Rattle.completion.proofs.Lent.{Lends, lends}
use Rattle.completion.proofs.Naming.{settled_best, all_itr}
use Rattle.completion.proofs.Passing.{itr_answered}
use Rattle.completion.proofs.Rounding.{itr_passed}
use Rattle.completion.specs.Answers.{itr_of}
use Rattle.completion.specs.Delays.{no_delay}
use Rattle.completion.specs.declared.answer.ItrAlone.{ItrAlone}
use Rattle.jobs.specs.Checks.{check_of}
use Rattle.jobs.specs.Jobs.{jobs_of}
use Rattle.jobs.specs.Limits.{max_jobs}
use Rattle.laws.specs.Words.{padded}
use Rattle.std.specs.Prelude.{Ok}
use Rattle.theory.specs.Bounds.{Answer, itr}
use Rattle.theory.specs.Table.{table_of}
use mathlib.Core.Path.{◌≡◌, sym, ap, ◌∙◌}
use Rattle.completion.proofs.named.itr.Goals.{In_ok-alone, After-of-table}
use Rattle.completion.proofs.named.itr.Goals as goal

-- the set is accepted, with its bounds and rounds
accepts : (c : In_ok-alone) → (check_of (jobs_of c.args.set) ≡ Ok tt) × (c.in_ok-alone.alone ≡ itr_passed (itr (table_of (jobs_of c.args.set))))
accepts c = itr_answered _ _ (sym c.in_ok-alone.was ∙ c.itr_alone.ensures)

-- what its table holds
held : (c : After-of-table) → Lends c.args.set (lent_by c.of-table.result)
held c = lends c.args.set (accepts c.before).0 (lent_by c.of-table.result) c.of-table.ensures

pub of-table-requires : goal.of-table-requires
of-table-requires c = (accepts c).0

pub numbers_of-numbers-requires : goal.numbers_of-numbers-requires
numbers_of-numbers-requires c = (accepts c.before).0

pub round_delays-delays-requires : goal.round_delays-delays-requires
round_delays-delays-requires c =
    let at-table = c.before.before.before.before.before in
    let lent = held at-table in
    let bounds = ap (λ (a : ItrAlone). a.bounds) (accepts at-table.before).1 ∙ ap (λ (a : Answer). padded max_jobs 0 a.bounds) (sym lent.by_itr) in
    settled_best _ _ bounds

pub returns : goal.returns
unfolding itr_of
returns c =
    let at-table = c.before.before.before.before.before.before.before in
    let accepted = accepts at-table.before in
    let each = all_itr c.args.set (lent_by c.of-table.result) c.of-table.ensures c.numbers_of-numbers.result c.numbers_of-numbers.ensures c.in_ok-alone.alone.bounds in
    let delays = c.round_delays-delays.ensures ∙ ap (padded max_jobs no_delay) (each (ap (λ (a : ItrAlone). a.bounds) accepted.1)) in
    rw (accepted.0, delays, accepted.1)
