-- `most_urgent_counted` scans the records that the set counts. Assumes nothing.
use borrow.Author.Rules.{rules}
use mathlib.Core.Path.{◌≡◌, ◌∙◌}
use native.Mathlib.Omega.{arith}
use lib.ListN.{length}
use Rattle.jobs.specs.Limits.{max_jobs}
use Rattle.lent.proofs.Scanning.{best-counted}
use Rattle.lent.proofs.scan.most_urgent_counted.Goals as goal

pub returns : goal.returns
returns c =
    let set = c.args.set in
    let full : length set.jobs ≡ max_jobs = search rules in
    c.most_urgent.ensures ∙ best-counted set (omega (arith, full, c.requires)) c.args.times.now c.args.state
