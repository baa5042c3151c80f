-- `most_times` answers `most_times`, padded. The loop's invariant: the array is filled up to place n.
-- Assumes nothing.
use Rattle.jobs.proofs.MostTimes.{most_at, most_held}
use Rattle.jobs.specs.Limits.{max_jobs}
use Rattle.laws.proofs.Filling.{filled_none, filled_next}
use Rattle.laws.specs.Words.{padded}
use mathlib.Core.Path.{◌≡◌, refl, ap, ◌∙◌}
use native.Mathlib.Omega.{arith}
use Rattle.jobs.proofs.most.most_times.Goals as goal

pub loop-n-init : goal.loop-n-init
loop-n-init c = (omega arith, filled_none max_jobs 0 (most_at c.args.set))

pub loop-n-preserved : goal.loop-n-preserved
loop-n-preserved c =
    let l = c.loop-n in
    (omega (arith, c.loop-n-test.true), filled_next max_jobs 0 (most_at c.args.set) l.n l.times _ (omega (arith, c.loop-n-test.true, c.min-count.ensures)) l.invariant.1 refl)

pub returns : goal.returns
returns c =
    let l = c.loop-n in
    let all : l.n ≡ c.min-count.result = omega (arith, l.invariant.0, c.loop-n-test.false) in
    l.invariant.1 ∙ ap (padded max_jobs 0) (most_held c.args.set l.n (all ∙ c.min-count.ensures))
