-- The theorems of specs/Claims.antt, each from its law file. Assumes nothing.
use Rattle.jobs.specs.Claims.{Claims}
use Rattle.jobs.proofs.Accepted.{accepted, accepted_passes}
use Rattle.jobs.proofs.Six as six

pub claims : Claims
claims = record { accepts = λ js. (accepted js, accepted_passes js); record_as_six = six.record_as_six; set_as_six = six.set_as_six }
