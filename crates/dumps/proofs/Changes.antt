-- The changes of a dump: after those of spans in order all wires are 0, and the rows of these spans have been seen. Assumes nothing.
--   quiet     all wires are 0
--   one_high   one wire is 1 since a time
use Rattle.std.specs.Prelude.{Some}
use Prim.Native.Nat.{ℕ, ◌≤◌, ◌<◌}
use mathlib.Core.Path.{◌≡◌, refl, sym, ◌∙◌}
use mathlib.Core.Bool.{true, false, cond, and-false}
use mathlib.Core.Logic.{◌≢◌}
use mathlib.Core.List.{List, [], ◌∷◌, ◌++◌, append-nil}
use native.Mathlib.Omega.{arith}
use lib.Dec.{eqb}
use lib.ListN.{length}
use borrow.Author.Tests.{eq-eqb, ne_eqb, lt-ltb}
use Rattle.laws.proofs.Tests.{by_test, by_equal, both_ways}
use Rattle.jobs.specs.declared.job.Job.{Job}
use Rattle.machine.specs.declared.trace.Span.{Span}
use Rattle.machine.specs.Ticks.{last_time}
use Rattle.machine.specs.Runs.{row, rows}
use Rattle.machine.proofs.SpanTimes.{EndedBy}
use Rattle.machine.proofs.SpanOrder.{Ordered, Within}
use Rattle.dumps.specs.Dumps.{time_line, value_line, runs_first, last_change, rise_after, span_lines, change_lines}
use Rattle.dumps.specs.Readers.{Level, low, high, seen_line}
use Rattle.dumps.proofs.Wires.{Becomes, none_high_lem}
use Rattle.dumps.proofs.Readings.{Reads, reads_none, reads_line, reads_append, seen_as, seen_ext, time_told, value_told}
use Rattle.dumps.proofs.Values.{first_level, OneFirst}

abbrev pub quiet : ℕ → Level
quiet k = low

abbrev one_high : ℕ → ℕ → ℕ → Level
one_high u t k = cond (eqb u k) (high t) low

quiet_again : (u t : ℕ) → Becomes u low (one_high u t) quiet
quiet_again u t k = by_test (eqb u k) (λ e. rw e) (λ e. rw e)

-- no span begins before the last change of those before it
pub last-before : (s : Span) (ss : List Span) → Ordered (s ∷ ss) → last_change ss ≤ s.from
last-before s [] o = omega arith
last-before s (r ∷ rs) o = o.1.0

-- ---- one span
module _ (js : List Job) (s : Span) (done : List ℕ) (inside : s.at < length js) where
  rise_told : seen_line (value_line true s.at) (seen_as js (Some s.from) quiet done) ≡ Some (seen_as js (Some s.from) (one_high s.at s.from) done)
  rise_told =
      value_told js true s.at s.from (high s.from) quiet (one_high s.at s.from) done [] inside (λ k. refl)
      (rw (none_high_lem js quiet (λ k l. refl)))
      ∙ rw (append-nil done)

  fall_told : seen_line (value_line false s.at) (seen_as js (Some s.to) (one_high s.at s.from) done) ≡ Some (seen_as js (Some s.to) quiet (done ++ row js s))
  fall_told =
      value_told js false s.at s.to low (one_high s.at s.from) quiet done (row js s) inside (quiet_again s.at s.from)
      (rw (eq-eqb s.at s.at refl))

  -- its beginning, after the last change
  begins : (last : ℕ) → s.from ≢ 0 → last ≤ s.from → s.from ≤ last_time
      → Reads (rise_after last s) (seen_as js (Some last) quiet done) (seen_as js (Some s.from) (one_high s.at s.from) done)
  begins last ne later l =
      let rise = reads_line (value_line true s.at) [] _ rise_told (reads_none _) in
      rw (ne_eqb s.from 0 ne)
      (by_equal s.from last
      (λ e. rw (eq-eqb s.from last e, ← e) rise)
      (λ d.
      rw (ne_eqb s.from last d)
      (reads_line (time_line s.from) (value_line true s.at ∷ []) _ (time_told js (Some last) s.from quiet done (lt-ltb last s.from (omega arith)) l) rise)))

  -- its end
  ends : (t : ℕ) → t < s.to → s.to ≤ last_time
      → Reads (time_line s.to ∷ value_line false s.at ∷ []) (seen_as js (Some t) (one_high s.at s.from) done) (seen_as js (Some s.to) quiet (done ++ row js s))
  ends t later l =
      reads_line (time_line s.to) (value_line false s.at ∷ []) _ (time_told js (Some t) s.to (one_high s.at s.from) done (lt-ltb t s.to later) l)
      (reads_line (value_line false s.at) [] _ fall_told (reads_none _))

-- ---- all spans
-- a span that begins later leaves the values at time 0 as they are
pub runs_later : (s : Span) (ss : List Span) → s.from ≢ 0 → (k : ℕ) → runs_first (s ∷ ss) k ≡ runs_first ss k
unfolding runs_first
runs_later s ss ne k = rw (ne_eqb s.from 0 ne, and-false (eqb s.at k))

-- a span that begins at time 0 is the only one so far
runs_first_lem : (s : Span) → s.from ≡ 0 → (k : ℕ) → first_level (s ∷ []) k ≡ one_high s.at s.from k
unfolding runs_first
runs_first_lem s e k = rw (eq-eqb s.from 0 e, e) (by_test (eqb s.at k) (λ t. rw t) (λ t. rw t))

-- at most one job runs first
pub one_first : (ss : List Span) → Ordered ss → OneFirst ss
unfolding runs_first
one_first [] o i k t ne = absurd (both_ways t refl)
one_first (s ∷ []) o i k t ne =
    by_equal s.at k
    (λ e. absurd (both_ways t (rw (ne_eqb s.at i (λ q. ne (sym q ∙ e))))))
    (λ d. rw (ne_eqb s.at k d))
one_first (s ∷ r ∷ rs) o i k t ne =
    let later : s.from ≢ 0 = λ e. omega (arith, o.1.0, o.2.0) in
    runs_later s (r ∷ rs) later k ∙ one_first (r ∷ rs) o.2 i k (sym (runs_later s (r ∷ rs) later i) ∙ t) ne

module _ (js : List Job) where
  first_told : (s : Span) (ss : List Span) → Ordered (s ∷ ss) → Within (length js) (s ∷ ss) → EndedBy last_time (s ∷ ss) → s.from ≡ 0
      → Reads (change_lines (s ∷ ss)) (seen_as js (Some 0) (first_level (s ∷ ss)) []) (seen_as js (Some s.to) quiet (rows js (s ∷ ss)))
  unfolding change_lines rows
  first_told s [] o w h e =
      rw (seen_ext js (Some 0) (first_level (s ∷ [])) (one_high s.at s.from) [] (λ k l. runs_first_lem s e k), eq-eqb s.from 0 e)
      (ends js s [] w.0 0 (omega (arith, o.0)) h.1)
  first_told s (r ∷ rs) o w h e = absurd (omega (arith, o.1.0, o.2.0))

  pub changes_told : (ss : List Span) → Ordered ss → Within (length js) ss → EndedBy last_time ss
      → Reads (change_lines ss) (seen_as js (Some 0) (first_level ss) []) (seen_as js (Some (last_change ss)) quiet (rows js ss))
  unfolding change_lines rows runs_first
  changes_told [] o w h = reads_none _
  changes_told (s ∷ ss) o w h =
      by_equal s.from 0
      (first_told s ss o w h)
      (λ ne.
      rw (seen_ext js (Some 0) (first_level (s ∷ ss)) (first_level ss) [] (λ k l. rw (runs_later s ss ne k)))
      (reads_append (change_lines ss) (span_lines (last_change ss) s) _ (changes_told ss o.2 w.1 h.2)
      (reads_append (rise_after (last_change ss) s) (time_line s.to ∷ value_line false s.at ∷ []) _
      (begins js s (rows js ss) w.0 (last_change ss) ne (last-before s ss o) h.0)
      (ends js s (rows js ss) w.0 s.from o.0 h.1))))
