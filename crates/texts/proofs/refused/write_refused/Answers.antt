-- `write_refused` leaves the line at the start of the buffer. Assumes nothing.
use Prim.Native.Nat.{ℕ, ◌+◌, ◌≤◌}
use Rattle.decimal.proofs.Writing.{writes_short}
use Rattle.decimal.specs.Digits.{digit_count, decimal}
use Rattle.laws.proofs.Clipped.{put-start, put-counted, put_wrote}
use Rattle.laws.specs.Words.{ascii}
use Rattle.texts.proofs.RefusedText.{refused_length, refused_pieces}
use Rattle.texts.proofs.Wholes.{wrote_whole}
use Rattle.texts.proofs.WordDigits.{word_digits}
use Rattle.texts.specs.Answers.{refused_text}
use borrow.Author.Rules.{rules}
use lib.ListN.{length}
use mathlib.Core.Path.{sym, ap, ◌∙◌}
use native.Mathlib.Omega.{arith}
use Rattle.texts.proofs.refused.write_refused.Goals as goal

pub overflow_add-digit_count : goal.overflow_add-digit_count
overflow_add-digit_count c = let h = word_digits c.number-number.result (search rules) in let e = c.digit_count.ensures in search (rules, h, e)

pub returns-then-out-digit_count : goal.returns-then-out-digit_count
returns-then-out-digit_count c =
    let length_is = refused_length c.args.refusal ∙ ap (λ (n : ℕ). 10 + digit_count n) (sym c.number-number.ensures) ∙ ap (λ (n : ℕ). 10 + n) (sym c.digit_count.ensures) in
    let s = c.args in
    writes_short (refused_text s.refusal) s.out.now (omega (arith, length_is, c.if-out-digit_count.true))

pub returns : goal.returns
returns c =
    let s = c.args in
    let told = c.number-number in
    let length_is = refused_length c.args.refusal ∙ ap (λ (n : ℕ). 10 + digit_count n) (sym c.number-number.ensures) ∙ ap (λ (n : ℕ). 10 + n) (sym c.digit_count.ensures) in
    let fit : length (refused_text s.refusal) ≤ length s.out.now = omega (arith, length_is, c.if-out-digit_count.false) in
    let after_number = put-counted (decimal told.result) (put-start (ascii "refused,") c.put_bytes-after_word.ensures) c.put_number.ensures in
    let line = rw (refused_pieces s.refusal told.result told.ensures) at (put-counted (ascii "\r\n") after_number c.put_bytes.ensures) in
    wrote_whole (put_wrote line (omega (arith, fit))) fit
