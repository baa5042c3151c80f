-- `put_number` leaves as much of the digits as fits. Assumes nothing.
use Rattle.texts.proofs.WordDigits.{word_digits, digits_count, digits_first}
use borrow.Author.Rules.{rules}
use lib.ListN.{length}
use mathlib.Core.Path.{refl, sym, ap, ◌∙◌}
use Rattle.texts.proofs.bytes.put_number.Goals as goal

pub slice_bounds-digits-end : goal.slice_bounds-digits-end
slice_bounds-digits-end c =
    let count_is = digits_count c.args.value _ (search rules) refl c.write_unsigned-count.ensures in
    let h = word_digits c.args.value (search rules) in
    let e = count_is in
    search (rules, h, e)

pub slice_bounds-put_bytes-end : goal.slice_bounds-put_bytes-end
slice_bounds-put_bytes-end c =
    let count_is = digits_count c.args.value _ (search rules) refl c.write_unsigned-count.ensures in
    let first_are = digits_first c.args.value _ (search rules) refl c.write_unsigned-count.ensures in
    count_is ∙ ap length (sym first_are)

pub returns : goal.returns
returns c =
    let first_are = digits_first c.args.value _ (search rules) refl c.write_unsigned-count.ensures in
    rw first_are at c.put_bytes.ensures
