-- `late_round` answers the bounds by CJA: those of a round after late bounds. Assumes nothing.
use Rattle.jobs.specs.Limits.{max_jobs}
use Rattle.laws.specs.Words.{padded}
use Rattle.theory.proofs.Late.{late_rises, round-late}
use Rattle.theory.proofs.Refilling.{spare_none}
use Rattle.theory.proofs.SweptPairs.{ready_none}
use mathlib.Core.Path.{ap, ◌∙◌}
use Rattle.completion.proofs.cja.late_round.Goals as goal

pub round-requires : goal.round-requires
round-requires c = let t = c.args.table.now in (late_rises _ t.fit, rw c.new-carried.ensures (ready_none t.ended), spare_none _)

pub returns : goal.returns
returns c = c.round.ensures.0 ∙ ap (padded max_jobs 0) (round-late _ c.args.table.now.fit)
