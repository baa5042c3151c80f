-- The theorems of specs/Claims.antt, each from its law file. Assumes nothing.
use Rattle.numbers.specs.Claims.{Claims}
use Rattle.numbers.proofs.RoundTrip as jobs
use Rattle.numbers.proofs.States as states

pub claims : Claims
claims =
    record {
      held_back = jobs.held_back;
      front_back = jobs.front_back;
      state_back = states.state_back;
      memory_back = states.memory_back;
    }
