-- `next_release` answers `next_release`. The loop's invariant: the next release of the first n jobs is known. Assumes nothing.
use Rattle.machine.specs.Ticks.{last_time}
use Rattle.theory.proofs.Columns.{seen}
use Rattle.theory.proofs.NextRelease.{next_none, next_step}
use mathlib.Core.Path.{sym, ◌∙◌}
use native.Mathlib.Numerals.{add-one}
use native.Mathlib.Omega.{arith}
use Rattle.machine.proofs.timed.TimedJobs.next_release.Goals as goal

pub loop-n-init : goal.loop-n-init
loop-n-init c = (omega arith, sym (next_none last_time (seen c.args.self.columns.now).earliest c.args.time))

pub loop-n-preserved : goal.loop-n-preserved
loop-n-preserved c =
    let a = c.args in
    let l = c.loop-n in
    let step = next_step last_time (seen a.self.columns.now).earliest a.time l.n in
    (omega arith, c.sooner-next.ensures ∙ rw (c.figure.ensures, l.invariant.1, add-one) (sym step))
