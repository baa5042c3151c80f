-- A buffer of 64 bytes for each job that a set can hold has room for every text. A chain number has at most 2 digits, a job number 3, a bound 11 and a
-- time of a run 10, so that a row of bounds takes at most 58 bytes and a row of a trace 31. Assumes nothing.
use Prim.Native.Nat.{ℕ, zero, suc, ◌+◌, ◌*◌, ◌^◌, ◌≤◌, ◌<◌}
use mathlib.Core.List.{List, [], ◌∷◌, map}
use mathlib.Core.Path.{◌≡◌, sym, ap, subst}
use native.Mathlib.Omega.{arith}
use lib.Dec.{ltb}
use lib.IntN.{ℤ, pos, nat_abs, ◌-ℤ◌}
use lib.ListN.{length, get_or, length-append}
use Rattle.laws.specs.Words.{number_at}
use Rattle.laws.proofs.Tests.{by_test}
use Rattle.laws.proofs.Tabulate.{get_d_tabulate}
use Rattle.decimal.specs.Digits.{signed}
use Rattle.decimal.proofs.Values.{decimal-within, signed-within}
use Rattle.jobs.specs.declared.job.Job.{Job}
use Rattle.std.specs.Prelude.{Ok}
use Rattle.jobs.specs.Jobs.{job_at, most_times}
use Rattle.jobs.specs.Checks.{check_of}
use Rattle.jobs.proofs.Accepted.{Accepted, accepted}
use Rattle.theory.specs.Table.{table_of}
use Rattle.theory.specs.Bounds.{ert, cja, itr, slack, slacks}
use Rattle.theory.proofs.Claims.{all_limited}
use Rattle.machine.specs.declared.trace.Span.{Span}
use Rattle.machine.specs.Ticks.{last_time}
use Rattle.machine.specs.Runs.{row, rows, traced}
use Rattle.machine.proofs.SpanTimes.{EndedBy, spans-ended}
use Rattle.machine.proofs.MostTimes.{most_passed}
use Rattle.machine.proofs.Claims.{claims}
use Rattle.report.specs.Texts.{bounds_header, bounds_row, bounds_text, trace_header, trace_text, max_bytes, TextsFit}
use Rattle.texts.proofs.Lines.{line_text, lines_up_to, lines_within, Narrow, line_within}
use Rattle.report.proofs.EntryTexts.{entries_text}
use Rattle.texts.proofs.Numbers.{numbered_at}
use Rattle.report.proofs.TraceTexts.{span_text, spans_text, rows-spans}

-- ---- a slack
small_difference : (d b : ℕ) → d < 10 ^ 11 → b < 10 ^ 11 → nat_abs (pos d -ℤ pos b) < 10 ^ 11
small_difference d zero h k = omega arith
small_difference d (suc b) h k = by_test (ltb d (suc b)) (λ t. simp t (omega arith)) (λ t. simp t (omega arith))

module _ (js : List Job) (passed : check_of js ≡ Ok tt) where
  ok : Accepted js
  ok = accepted js passed

  slack-within : (i : ℕ) → i < length js → length (signed (get_or (slacks js) i (pos 0))) ≤ 12
  unfolding slacks
  slack-within i l =
      subst (λ (z : ℤ). length (signed z) ≤ 12)
      (sym (get_d_tabulate 0 (length js) (λ k. slack (job_at js k).deadline (number_at (itr (table_of js)).bounds k)) (pos 0) i l))
      (signed-within 10 _ (small_difference (job_at js (0 + i)).deadline (number_at (itr (table_of js)).bounds (0 + i)) (omega (arith, (ok.limits (0 + i) (omega arith)).deadline))
      (omega (arith, (all_limited js passed).by_itr (0 + i) (omega arith)))))

  -- ---- the rows of bounds
  abbrev bounds_row_lem : ℕ → List ℤ
  bounds_row_lem = bounds_row js (ert (table_of js)) (cja (table_of js)) (itr (table_of js)).bounds (slacks js)

  bounds_row-within : (i : ℕ) → i < length js → length (line_text (bounds_row_lem i)) ≤ 58
  unfolding signed
  bounds_row-within i l =
      let t = table_of js in
      let low = all_limited js passed in
      let numbers = numbered_at js ok i in
      let narrow : Narrow (bounds_row_lem i) (2 ∷ 3 ∷ 11 ∷ 11 ∷ 11 ∷ 12 ∷ []) = (
        numbers.chain,
        (
          numbers.job,
          (
            decimal-within 10 (get_or (ert t) i 0) (omega (arith, low.by_ert i l)),
            (
              decimal-within 10 (get_or (cja t) i 0) (omega (arith, low.by_cja i l)),
              (
                decimal-within 10 (get_or (itr t).bounds i 0) (omega (arith, low.by_itr i l)),
                (slack-within i l, tt),
              ),
            ),
          ),
        ),
      ) in
      line_within (bounds_row_lem i) (2 ∷ 3 ∷ 11 ∷ 11 ∷ 11 ∷ 12 ∷ []) narrow

  bounds_fit : length (bounds_text js) ≤ max_bytes
  unfolding bounds_text
  bounds_fit =
      omega (arith, length-append bounds_header (lines_up_to bounds_row_lem (length js)), lines_within bounds_row_lem 58 (length js) bounds_row-within, ok.few)

  -- ---- the rows of a trace
  span_within : (s : Span) → s.from ≤ last_time → s.to ≤ last_time → length (span_text js s) ≤ 31
  unfolding signed
  span_within s from to =
      let numbers = numbered_at js ok s.at in
      let narrow : Narrow (map pos (row js s)) (2 ∷ 3 ∷ 10 ∷ 10 ∷ []) =
      (numbers.chain, (numbers.job, (decimal-within 9 s.from (omega arith), (decimal-within 9 s.to (omega arith), tt)))) in
      line_within (map pos (row js s)) (2 ∷ 3 ∷ 10 ∷ 10 ∷ []) narrow

  spans-within : (ss : List Span) → EndedBy last_time ss → length (spans_text js ss) ≤ 31 * length ss
  unfolding spans_text
  spans-within [] h = omega arith
  spans-within (s ∷ ss) h =
      omega (arith, length-append (spans_text js ss) (span_text js s), spans-within ss h.2, span_within s h.0 h.1)

  trace_fit : length (trace_text js) ≤ max_bytes
  unfolding trace_text
  trace_fit =
      let times = most_times js in
      let ss = traced js times in
      omega (arith, length-append trace_header (entries_text (rows js ss) (length ss)), ap length (rows-spans js ss), spans-within ss (spans-ended (table_of js) times last_time), (claims js times (most_passed js passed)).trace_within_twice, ok.few)

pub texts_fit : TextsFit
texts_fit js passed = (bounds_fit js passed, trace_fit js passed)
