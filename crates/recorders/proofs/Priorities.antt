-- The tests of rows: two stretches of time that meet, by four comparisons, and the rows still to come. Assumes nothing.
use Prim.Native.Nat.{ℕ, ◌+◌, max, min, ◌≤◌, ◌<◌}
use mathlib.Core.Path.{◌≡◌, ap, ◌∙◌}
use mathlib.Core.Bool.{Bool, true, false, cond, ◌&&◌, ◌||◌}
use mathlib.Core.List.{List}
use native.Mathlib.Omega.{arith}
use native.Mathlib.Numerals.{add-one}
use lib.ListN.{length, get_or, drop, drop_of_length-le}
use lib.Dec.{ltb}
use lib.Seq.{drop-cons}
use borrow.Author.Tests.{ltb-true, ltb-false, lt-ltb}
use Rattle.laws.proofs.Tests.{by_test, and_parts, same_test}
use Rattle.recording.specs.declared.row.Row.{Row}
use Rattle.recording.specs.Rows.{no_row}
use Rattle.legality.proofs.Judging.{meeting, row_fits_in, rows_fit_in}
use Rattle.legality.proofs.Rows.{Rising}

module _ (from to ready done : ℕ) where
  abbrev each : Bool
  each = ltb from to && ltb from done && ltb ready to && ltb ready done

  each-meeting : each ≡ true → meeting from to ready done ≡ true
  each-meeting e =
      let all = and_parts e in
      let three = and_parts all.0 in
      let two = and_parts three.0 in
      lt-ltb (max from ready) (min to done)
      (omega (arith, ltb-true from to two.0, ltb-true from done two.1, ltb-true ready to three.1, ltb-true ready done all.1))

  meeting-each : meeting from to ready done ≡ true → each ≡ true
  meeting-each e =
      let l : max from ready < min to done = ltb-true (max from ready) (min to done) e in
      rw (lt-ltb from to (omega arith), lt-ltb from done (omega arith), lt-ltb ready to (omega arith), lt-ltb ready done (omega arith))

  pub each_is_meeting : each ≡ meeting from to ready done
  each_is_meeting = same_test each (meeting from to ready done) each-meeting meeting-each

-- two stretches one after the other, of which the second counts where a test holds
module _ (gap from to ready done : ℕ) (after : gap ≤ from) (lasts : from < to) where
  abbrev in_gap : Bool
  in_gap = meeting gap from ready done

  abbrev in_row : Bool
  in_row = meeting from to ready done

  gap_or_row : meeting gap to ready done ≡ in_gap || in_row
  gap_or_row =
      by_test in_gap
      (λ e. rw e (lt-ltb (max gap ready) (min to done) (omega (arith, ltb-true (max gap ready) (min from done) e))))
      (λ e.
      let none : min from done ≤ max gap ready = ltb-false (max gap ready) (min from done) e in
      rw e
      (same_test (meeting gap to ready done) in_row
      (λ q. lt-ltb (max from ready) (min to done) (omega (arith, ltb-true (max gap ready) (min to done) q)))
      (λ q. lt-ltb (max gap ready) (min to done) (omega (arith, ltb-true (max from ready) (min to done) q)))))

  pub one_stretch : (higher : Bool) → meeting gap (cond higher to from) ready done ≡ in_gap || (in_row && higher)
  one_stretch true = gap_or_row ∙ ap (λ (b : Bool). in_gap || b) (by_test in_row (λ q. rw q) (λ q. rw q))
  one_stretch false = by_test in_gap (λ e. rw e) (λ e. rw e (by_test in_row (λ q. rw q) (λ q. rw q)))

-- ---- the rows from the n-th on
module _ (waiting : List (List ℕ)) (count : ℕ) (rows : List Row) where
  abbrev pub rest_fits : ℕ → ℕ → Bool
  rest_fits gap n = rows_fit_in waiting count gap (drop n rows)

  module _ (gap n : ℕ) (here : n < length rows) (r : Row) (is : r ≡ get_or rows n no_row) where
    rest_is : rest_fits gap n ≡ row_fits_in waiting count gap r && rest_fits r.to (n + 1)
    unfolding rows_fit_in
    rest_is = rw (add-one n, drop-cons rows n no_row here, is)

    pub rest_rising : Rising gap (drop n rows) → (gap ≤ r.from) × (r.from < r.to) × Rising r.to (drop (n + 1) rows)
    rest_rising h = rw (is, add-one n) (rw (drop-cons rows n no_row here) at h)

    pub rest_not : row_fits_in waiting count gap r ≡ false → rest_fits gap n ≡ false
    rest_not e = rest_is ∙ rw e

    pub rest-next : row_fits_in waiting count gap r ≡ true → rest_fits gap n ≡ rest_fits r.to (n + 1)
    rest-next e = rest_is ∙ rw e

  pub rest_none : (gap n : ℕ) → length rows ≤ n → rest_fits gap n ≡ true
  unfolding rows_fit_in
  rest_none gap n l = rw (drop_of_length-le rows l)
