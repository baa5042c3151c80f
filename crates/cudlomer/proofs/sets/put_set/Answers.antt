-- `put_set` writes the jobs and answers how many there are, as C sees it. Assumes nothing.
use Rattle.cudlomer.proofs.Negation.{handed_on}
use Rattle.cudlomer.specs.Codes.{checked_code}
use Rattle.jobs.proofs.Sets.{length_jobs}
use mathlib.Core.Path.{sym, ap₂, ◌∙◌}
use native.Mathlib.Omega.{arith}
use Rattle.cudlomer.proofs.sets.put_set.Goals as goal

pub checked_code-requires : goal.checked_code-requires
checked_code-requires c = omega (arith, c.requires)

pub returns : goal.returns
returns c =
    let put = c.put_jobs.ensures in
    (handed_on (record { sfits = c.checked_code.type_inv }) c.checked_code.ensures ∙ ap₂ checked_code put.0 (sym (length_jobs c.args.set)), put.1)
