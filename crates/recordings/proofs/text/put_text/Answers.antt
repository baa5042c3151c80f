-- `put_text` leaves as much of the text as fits. Assumes nothing.
use Prim.Native.Nat.{◌+◌, ◌≤◌, ◌<◌, ◌^◌}
use Rattle.std.specs.Prelude.{IfSome}
use Rattle.laws.proofs.Clipped.{put_then}
use Rattle.laws.specs.Words.{ascii}
use Rattle.recorders.specs.declared.compare.Compared.{Compared}
use Rattle.recordings.proofs.Fits.{compared_fits}
use Rattle.recordings.specs.Texts.{legal_line, difference_line, compared_text, max_compared_text}
use borrow.Author.Rules.{rules}
use lib.ListN.{length, length-append}
use mathlib.Core.List.{◌++◌}
use native.Mathlib.Omega.{arith}
use Rattle.recordings.proofs.text.put_text.Goals as goal

-- the three lines have room
room : (compared : Compared)
    → IfSome compared.difference (λ tick. tick < 2 ^ 64)
    → length (legal_line (ascii "first") compared.first) + length (legal_line (ascii "second") compared.second) + length (difference_line compared.difference) ≤ max_compared_text
unfolding compared_text
room compared h =
    let first = legal_line (ascii "first") compared.first in
    let second = legal_line (ascii "second") compared.second in
    let difference = difference_line compared.difference in
    omega (arith, compared_fits compared h, length-append (first ++ second) difference, length-append first second)

pub put_legal-second-requires : goal.put_legal-second-requires
put_legal-second-requires c = omega (arith, room c.args.compared (search (rules, c.well_formed)))

pub put_legal-difference-requires : goal.put_legal-difference-requires
put_legal-difference-requires c =
    omega (arith, room c.args.compared (search (rules, c.well_formed)), c.put_legal-second.ensures.place)

pub put_difference-requires : goal.put_difference-requires
put_difference-requires c =
    omega (arith, room c.args.compared (search (rules, c.well_formed)), c.put_legal-second.ensures.place, c.put_legal-difference.ensures.place)

pub returns : goal.returns
unfolding compared_text
returns c =
    put_then (put_then c.put_legal-second.ensures c.put_legal-difference.ensures) c.put_difference.ensures
