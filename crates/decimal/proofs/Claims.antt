-- The theorems of specs/Claims.antt, each from its law file. Assumes nothing.
use Rattle.decimal.specs.Claims.{Claims}
use Rattle.decimal.proofs.Counts as counts
use Rattle.decimal.proofs.Values as values
use Rattle.decimal.proofs.RoundTrip as round

pub claims : Claims
claims =
    record {
      value_decimal = values.value_decimal;
      count_holds = counts.count_holds;
      count_fewest = counts.count_fewest;
      count_within = counts.count_within;
      no_leading_zero = values.no_leading_zero;
      round_trip = round.round_trip;
    }
