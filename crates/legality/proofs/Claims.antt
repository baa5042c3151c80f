-- The claims of specs/Claims, each by the laws that it follows from. Assumes nothing.
use Rattle.laws.specs.Words.{number_at}
use Rattle.jobs.proofs.Accepted.{accepted}
use Rattle.theory.specs.Table.{table_of}
use Rattle.theory.specs.Bounds.{ert, cja, itr}
use Rattle.theory.proofs.AcceptedSets.{accepted_well}
use Rattle.theory.proofs.Claims.{claims as theory_claims}
use Rattle.legality.specs.Claims.{EveryRecording, EveryTwo}
use Rattle.legality.proofs.Rows.{order_rising}
use Rattle.legality.proofs.Deciding.{legal_some, legal_iff, legal_keeps}
use Rattle.legality.proofs.Differences.{first_difference_lem, difference_swap, none_iff}

pub every_recording : EveryRecording
every_recording js passed rows order =
    let well = accepted_well js (accepted js passed) in
    let rising = order_rising rows order in
    let demand = (theory_claims js passed).demand_3 in
    record {
      legal_some = legal_some well rows rising;
      legal_iff = legal_iff well rows rising;
      legal_keeps_bounds = λ legal. (
        λ u l. legal_keeps well rows rising legal u (number_at (ert (table_of js)) u) l (demand.by_ert u l),
        λ u l. legal_keeps well rows rising legal u (number_at (cja (table_of js)) u) l (demand.by_cja u l),
        λ u l. legal_keeps well rows rising legal u (number_at (itr (table_of js)).bounds u) l (demand.by_itr u l),
      );
    }

pub every_two : EveryTwo
every_two a b h k =
    let first = first_difference_lem a b h k in
    record { first = first; exchanged = difference_swap a b; none_iff = none_iff a b first }
