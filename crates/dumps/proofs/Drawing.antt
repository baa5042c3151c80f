-- What the machine leaves of a trace is what the writer of its dump asks: its rows read back are its spans, of which the earliest alone can begin at
-- time 0. Assumes nothing.
--   left_text    the dump of what it leaves is the waveform
--   left_drawn   it is what the writer asks
use Prim.Native.Nat.{ℕ, ◌+◌, ◌*◌, ◌≤◌, ◌<◌}
use mathlib.Core.Path.{◌≡◌, refl, sym, ap, ◌∙◌}
use mathlib.Core.Bool.{and-false}
use mathlib.Core.List.{List, [], ◌∷◌, ◌++◌, append_assoc}
use native.Mathlib.Omega.{arith}
use lib.Dec.{eqb}
use lib.ListN.{length, drop}
use lib.Seq.{get_or-append-add}
use borrow.Author.Tests.{eq-eqb, ne_eqb}
use Rattle.laws.specs.Words.{number_at, patched}
use Rattle.laws.proofs.Tests.{by_test, by_equal}
use Rattle.jobs.specs.declared.job.Job.{Job}
use Rattle.std.specs.Prelude.{Ok}
use Rattle.jobs.specs.Limits.{max_jobs}
use Rattle.jobs.specs.Jobs.{job_at}
use Rattle.jobs.proofs.Accepted.{Accepted}
use Rattle.jobs.proofs.Places.{place_found}
use Rattle.theory.specs.Table.{table_of}
use Rattle.machine.specs.declared.trace.Span.{Span}
use Rattle.machine.specs.Ticks.{last_time, machine_check}
use Rattle.machine.specs.Runs.{row, rows, traced}
use Rattle.machine.proofs.RunningTimes.{set_accepted}
use Rattle.machine.proofs.SpanOrder.{Ordered, Within, spans_ordered, spans-within}
use Rattle.machine.proofs.Tracing.{rows-length, rows_next}
use Rattle.dumps.specs.Dumps.{runs_first, dump_of, waveform_of}
use Rattle.dumps.proofs.Changes.{runs_later}
use Rattle.dumps.proofs.Entries.{span_at, spans_of, first_place, Drawn}
use Rattle.dumps.proofs.Claims.{claims}

-- ---- rows read back
module _ (js : List Job) (ok : Accepted js) where
  row_at : (ss : List Span) (s : Span) (rest : List ℕ) (k : ℕ) → number_at (rows js ss ++ (row js s ++ rest)) (4 * length ss + k) ≡ number_at (row js s ++ rest) k
  row_at ss s rest k = rw (← rows-length js ss) (get_or-append-add (rows js ss) (row js s ++ rest) k 0)

  span_back : (ss : List Span) (s : Span) (rest : List ℕ) → s.at < length js → span_at js (rows js ss ++ (row js s ++ rest)) (length ss) ≡ s
  unfolding span_at
  span_back ss s rest l =
      let chain : number_at (rows js ss ++ (row js s ++ rest)) (4 * length ss) ≡ (job_at js s.at).chain =
      ap (λ (k : ℕ). number_at (rows js ss ++ (row js s ++ rest)) k) (omega arith) ∙ row_at ss s rest 0 in
      rw (chain, row_at ss s rest 1, row_at ss s rest 2, row_at ss s rest 3, place_found js ok s.at l)

  spans_back : (ss : List Span) (rest : List ℕ) → Within (length js) ss → spans_of js (rows js ss ++ rest) (length ss) ≡ ss
  unfolding spans_of
  spans_back [] rest w = refl
  spans_back (s ∷ ss) rest w =
      let whole : rows js (s ∷ ss) ++ rest ≡ rows js ss ++ (row js s ++ rest) = rw rows_next (append_assoc (rows js ss) (row js s) rest) in
      ap (λ (b : List ℕ). spans_of js b (length (s ∷ ss))) whole ∙ rw (span_back ss s rest w.0, spans_back ss (row js s ++ rest) w.1)

-- ---- the job that runs first
first_value : (m : ℕ) → m ≤ max_jobs → (ss : List Span) → Ordered ss → (u : ℕ) → u < m → runs_first ss u ≡ eqb (first_place ss) u
unfolding runs_first first_place
first_value m few [] o u l = sym (ne_eqb max_jobs u (λ e. omega arith))
first_value m few (s ∷ []) o u l =
    by_equal s.from 0
    (λ e. rw (eq-eqb s.from 0 e) (by_test (eqb s.at u) (λ t. rw t) (λ t. rw t)))
    (λ ne. rw (ne_eqb s.from 0 ne, and-false (eqb s.at u)) (sym (ne_eqb max_jobs u (λ e. omega arith))))
first_value m few (s ∷ r ∷ rs) o u l =
    runs_later s (r ∷ rs) (λ e. omega (arith, o.1.0, o.2.0)) u ∙ first_value m few (r ∷ rs) o.2 u l

-- ---- a trace
module _ (js : List Job) (times : List ℕ) (passed : machine_check js times ≡ Ok tt) (buffer : List ℕ) where
  abbrev left : List ℕ
  left = patched buffer 0 (rows js (traced js times))

  pub left-spans : spans_of js left (length (traced js times)) ≡ traced js times
  unfolding patched
  left-spans =
      spans_back js (set_accepted js times passed) (traced js times) (drop (0 + length (rows js (traced js times))) buffer) (spans-within (table_of js) times last_time)

  pub left_text : dump_of js (spans_of js left (length (traced js times))) ≡ waveform_of js times
  unfolding waveform_of
  left_text = ap (dump_of js) left-spans

  pub left_drawn : 4 * length (traced js times) ≤ length left → Drawn js left (length (traced js times))
  left_drawn room =
      record {
        few = (set_accepted js times passed).few;
        room = room;
        first = rw left-spans (first_value (length js) (set_accepted js times passed).few (traced js times) (spans_ordered (table_of js) times last_time));
        fits = rw left_text (claims js times passed).waveform_fits;
      }
