-- `cudlomer_set_read` answers `read_code`, and leaves `read_into`. Assumes nothing.
use Rattle.cudlomer.proofs.Negation.{handed_on}
use Rattle.cudlomer.specs.Sets.{read_code, read_into}
use Rattle.jobs.proofs.Accepted.{accepted}
use Rattle.jobs.proofs.Sets.{length_jobs}
use Rattle.jobs.specs.Jobs.{jobs_of}
use Rattle.table.proofs.Accepting.{read_passed}
use mathlib.Core.Path.{refl, sym, ◌∙◌}
use native.Mathlib.Omega.{arith}
use Rattle.cudlomer.proofs.sets.cudlomer_set_read.Goals as goal

pub returns-in-Err : goal.returns-in-Err
unfolding read_code read_into
returns-in-Err c = rw (sym c.read.ensures ∙ c.in-Err.is) (handed_on (record { sfits = c.negated.type_inv }) c.negated.ensures, refl)

pub put_set-requires : goal.put_set-requires
put_set-requires c =
    let s = c.in-Ok.set in
    omega (arith, length_jobs s, (accepted (jobs_of s) (read_passed _ _ c.read.ensures c.in-Ok.is)).few)

pub returns-in-Ok : goal.returns-in-Ok
unfolding read_code read_into
returns-in-Ok c =
    let put = c.put_set in
    rw (sym c.read.ensures ∙ c.in-Ok.is) (handed_on (record { sfits = put.type_inv }) put.ensures.0, put.ensures.1)
