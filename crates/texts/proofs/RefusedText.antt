-- The line that a refusal prints: how long it is. Assumes nothing.
use Prim.Native.Nat.{ℕ, ◌+◌, ◌≤◌}
use mathlib.Core.List.{List, ◌++◌}
use mathlib.Core.Path.{◌≡◌, refl}
use native.Mathlib.Omega.{arith}
use lib.Dec.{leb}
use lib.ListN.{length, length-append}
use borrow.Author.Tests.{leb-true, leb-false}
use Rattle.laws.specs.Words.{ascii, written_length}
use Rattle.laws.proofs.Tests.{by_test}
use Rattle.decimal.specs.Digits.{digit_count, decimal}
use Rattle.decimal.proofs.Writing.{length_fits, length_short}
use Rattle.jobs.specs.declared.refusal.Refusal.{Refusal}
use Rattle.jobs.specs.declared.refusal.Refusal.TheVariants.{TextTooLong, NotHeader, MalformedLine, TooManyRecords, OutOfOrder, OutOfLimits, NoRecord, RunningTimes, ShortBuffer, UnknownAlgorithm, ImpossibleState, PriorityOutOfLimits, LeastOrMostOutOfLimits, LeastAboveMost, MalformedRecording, TooManyRows}
use Rattle.jobs.specs.Refusals.{number_of}
use Rattle.texts.specs.Answers.{refused_text}
use Rattle.texts.proofs.WordDigits.{word_digits}

pub refused_length : (refusal : Refusal) → length (refused_text refusal) ≡ 10 + digit_count (number_of refusal)
unfolding refused_text
refused_length refusal =
    let digits = decimal (number_of refusal) in
    omega (arith, length-append (ascii "refused," ++ digits) (ascii "\r\n"), length-append (ascii "refused,") digits)

pub refused_pieces : (refusal : Refusal) (number : ℕ) → number ≡ number_of refusal → ascii "refused," ++ decimal number ++ ascii "\r\n" ≡ refused_text refusal
unfolding refused_text
refused_pieces refusal number e = rw e refl

number_within : (refusal : Refusal) → number_of refusal ≤ 99
number_within TextTooLong = omega arith
number_within NotHeader = omega arith
number_within MalformedLine = omega arith
number_within TooManyRecords = omega arith
number_within OutOfOrder = omega arith
number_within OutOfLimits = omega arith
number_within NoRecord = omega arith
number_within RunningTimes = omega arith
number_within ShortBuffer = omega arith
number_within UnknownAlgorithm = omega arith
number_within ImpossibleState = omega arith
number_within PriorityOutOfLimits = omega arith
number_within LeastOrMostOutOfLimits = omega arith
number_within LeastAboveMost = omega arith
number_within MalformedRecording = omega arith
number_within TooManyRows = omega arith

-- the line is short, whether it was written or not
pub refused_short : (refusal : Refusal) (buffer : List ℕ) {n : ℕ} → n ≡ written_length (refused_text refusal) buffer → n ≤ 30
refused_short refusal buffer e =
    let text = refused_text refusal in
    let line : length text ≤ 30 = omega (arith, refused_length refusal, word_digits (number_of refusal) (omega (arith, number_within refusal))) in
    by_test (leb (length text) (length buffer))
    (λ t. omega (arith, e, line, length_fits text buffer (leb-true (length text) (length buffer) t)))
    (λ t. omega (arith, e, length_short text buffer (leb-false (length text) (length buffer) t)))
