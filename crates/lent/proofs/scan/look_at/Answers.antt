-- `look_at` meets its contract. Assumes nothing.
use Rattle.lent.proofs.Scanning.{looked}
use Rattle.laws.proofs.Tests.{and_left}
use Rattle.theory.specs.Runs.{complete}
use borrow.Author.Tests.{ltb-true}
use lib.Dec.{ltb, eqb}
use mathlib.Core.Path.{sym, ◌∙◌}
use Rattle.lent.proofs.scan.look_at.Goals as goal

pub ready_since-since-requires : goal.ready_since-since-requires
ready_since-since-requires c =
    let a = c.args in
    λ h. ltb-true 0 a.at (and_left (ltb 0 a.at) (eqb a.scan.last a.job.chain) (sym c.is_following-follows.ensures ∙ h))

pub returns : goal.returns
unfolding complete
returns c js e j =
    looked js _ _ _ e j
    c.is_following-follows.ensures
    c.since_release-elapsed.ensures
    (rw (c.number_at.ensures, c.number_at-2.ensures))
    c.ready_since-since.ensures
    c.best_after.ensures
