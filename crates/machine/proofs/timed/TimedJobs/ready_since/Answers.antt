-- `ready_since` meets its contract. Assumes nothing.
use Rattle.machine.proofs.Since.{since_first, since_apart, since_of}
use mathlib.Core.Path.{sym, ◌∙◌}
use native.Mathlib.Omega.{arith}
use Rattle.machine.proofs.timed.TimedJobs.ready_since.Goals as goal

pub returns-then-at-eq0 : goal.returns-then-at-eq0
returns-then-at-eq0 c = c.figure-release.ensures ∙ rw c.if-at-eq0.true (sym (since_first _ _))

pub returns-then-figure : goal.returns-then-figure
returns-then-figure c = c.figure-release.ensures ∙ sym (since_apart _ _ _ (omega arith) (rw (c.figure.ensures, c.figure-2.ensures) at c.if-figure.true))

pub returns : goal.returns
returns c =
    let joined = sym c.figure.ensures ∙ c.if-figure.false ∙ c.figure-2.ensures in
    c.max.ensures ∙ rw c.figure-release.ensures (sym (since_of _ _ _ (omega arith) joined))
