-- `place_of` answers `place_in`: the first job with the numbers. Assumes nothing.
use Rattle.jobs.proofs.Search.{place_by}
use Rattle.jobs.specs.Limits.{max_jobs}
use borrow.Author.Rules.{rules}
use lib.ListN.{length}
use mathlib.Core.Path.{◌≡◌, ◌∙◌}
use Rattle.jobs.proofs.place.place_of.Goals as goal

pub returns : goal.returns
returns c =
    let a = c.args in
    let places : length a.set.jobs ≡ max_jobs = search rules in
    c.unwrap_or.ensures ∙ rw (c.first_place.ensures, c.min-count.ensures) (place_by a.set a.chain a.number places)
