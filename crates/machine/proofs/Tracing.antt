-- A trace in its buffer: the spans so far stand there as rows, and one more leg rewrites the last row or adds one. Assumes nothing, but for the run
-- itself a runnable table.
--   Stored    what one more leg makes of the entries
--   Written   what holds at the head of the loop
use Rattle.std.specs.Prelude.{Ok, Err}
use Prim.Native.Nat.{ℕ, zero, suc, ◌+◌, ◌-◌, ◌*◌, ◌≤◌, ◌<◌}
use mathlib.Core.Path.{◌≡◌, refl, sym, ap, subst, ◌∙◌}
use mathlib.Core.Bool.{true, false, cond, ◌&&◌}
use mathlib.Core.List.{List, [], ◌∷◌, ◌++◌, append_assoc}
use native.Mathlib.Omega.{arith}
use native.Mathlib.Numerals.{add-one}
use native.Mathlib.Nat.{add-zero, add-suc, zero-add}
use lib.Dec.{ltb, eqb}
use lib.ListN.{length, set, drop, length-append}
use lib.Seq.{take_at, drop-append-add}
use borrow.Author.Tests.{lt-ltb, lt-leb, le-leb, eq-eqb}
use Rattle.laws.specs.Words.{patched}
use Rattle.laws.proofs.Tests.{by_test}
use Rattle.laws.proofs.Buffers.{patched_more, length-patched}
use Rattle.jobs.specs.declared.job.Job.{Job}
use Rattle.jobs.specs.declared.refusal.Refusal.{Refusal}
use Rattle.jobs.specs.declared.refusal.Refusal.TheVariants.{ShortBuffer}
use Rattle.jobs.specs.Limits.{max_jobs}
use Rattle.jobs.specs.Jobs.{job_at}
use Rattle.theory.specs.Table.{Table, table_of}
use Rattle.theory.specs.Runs.{idle, runs}
use Rattle.machine.specs.declared.trace.Span.{Span}
use Rattle.machine.specs.declared.trace.Put.{Put}
use Rattle.machine.specs.Ticks.{last_time, all_complete, machine_check}
use Rattle.machine.specs.Runs.{after, entry, steps_of, noted, spans, row, rows, trace_check, traced, trace_of, traced_in}
use Rattle.theory.proofs.Runnable.{last_release, Runnable}
use Rattle.machine.proofs.Spans.{goes_on, extended, on_at, spans_within_twice}
use Rattle.machine.proofs.Completions.{entry_settled}
use Rattle.machine.proofs.Runnable.{runnable}
use Rattle.machine.proofs.Running.{at_limit, Reached, reached_settled, reached_limit}

-- ---- four numbers stored one after the other
stored_at : {A : Type 0} (w x y z : A) (b : List A) (k : ℕ) → suc (suc (suc k)) < length b
    → set (set (set (set b k w) (suc k) x) (suc (suc k)) y) (suc (suc (suc k))) z ≡ patched b k (w ∷ x ∷ y ∷ z ∷ [])
unfolding patched
stored_at w x y z [] k l = absurd (omega arith)
stored_at w x y z (a ∷ []) zero l = absurd (omega arith)
stored_at w x y z (a ∷ b ∷ []) zero l = absurd (omega arith)
stored_at w x y z (a ∷ b ∷ c ∷ []) zero l = absurd (omega arith)
stored_at w x y z (a ∷ b ∷ c ∷ d ∷ rest) zero l = refl
stored_at {A} w x y z (a ∷ rest) (suc k) l =
    let e : suc k + 4 ≡ suc (k + 4) = omega arith in
    rw e (ap (λ (list : List A). a ∷ list) (stored_at w x y z rest k (omega arith)))

pub four_stored : {A : Type 0} (b : List A) (k : ℕ) (w x y z : A) → k + 3 < length b
    → set (set (set (set b k w) (k + 1) x) (k + 2) y) (k + 3) z ≡ patched b k (w ∷ x ∷ y ∷ z ∷ [])
four_stored b k w x y z l =
    let one : k + 1 ≡ suc k = omega arith in
    let two : k + 2 ≡ suc (suc k) = omega arith in
    let three : k + 3 ≡ suc (suc (suc k)) = omega arith in
    rw (one, two, three) (stored_at w x y z b k (omega arith))

-- a text over an equally long one at the end of what was written from the buffer's start
pub patched_over : {A : Type 0} (b x y z : List A) → length y ≡ length z → patched (patched b 0 (x ++ y)) (length x) z ≡ patched b 0 (x ++ z)
unfolding patched
patched_over b x y z e =
    let rest = drop (length (x ++ y)) b in
    let same : length (x ++ y) ≡ length (x ++ z) = omega (arith, length-append x y, length-append x z) in
    let whole : (x ++ y) ++ rest ≡ x ++ (y ++ rest) = append_assoc x y rest in
    let long : length z ≡ length y + 0 = omega arith in
    let past : drop (length x + length z) (x ++ (y ++ rest)) ≡ rest
    = drop-append-add x (y ++ rest) (length z) ∙ ap (λ (k : ℕ). drop k (y ++ rest)) long ∙ drop-append-add y rest 0 in
    rw (zero-add, whole, take_at x (y ++ rest) (length x) refl, past, zero-add, ← same)

-- ---- rows
module _ (js : List Job) where
  pub rows-length : (ss : List Span) → length (rows js ss) ≡ 4 * length ss
  unfolding rows
  rows-length [] = refl
  rows-length (s ∷ ss) = length-append (rows js ss) (row js s) ∙ omega (arith, rows-length ss)

  pub rows_next : (s : Span) (ss : List Span) → rows js (s ∷ ss) ≡ rows js ss ++ row js s
  unfolding rows
  rows_next s ss = refl

-- the latest span
abbrev pub latest : List Span → Span
latest [] = record { at = 0; from = 0; to = 0 }
latest (s ∷ ss) = s

-- spans after the job at u ran from n to m
abbrev pub extended_to : List Span → ℕ → ℕ → ℕ → List Span
extended_to [] u n m = record { at = u; from = n; to = m } ∷ []
extended_to (s ∷ ss) u n m =
    cond (goes_on (s ∷ ss) u n)
    (record { at = s.at; from = s.from; to = m } ∷ ss)
    (record { at = u; from = n; to = m } ∷ s ∷ ss)

extended_one : (ss : List Span) (u n : ℕ) → extended ss u n ≡ extended_to ss u n (suc n)
unfolding noted
extended_one [] u n = refl
extended_one (s ∷ ss) u n = refl

extended_more : (ss : List Span) (u n m : ℕ) → extended (extended_to ss u n m) u m ≡ extended_to ss u n (suc m)
unfolding noted
extended_more [] u n m = rw (eq-eqb u u refl, eq-eqb m m refl)
extended_more (s ∷ ss) u n m =
    by_test (goes_on (s ∷ ss) u n)
    (λ h. rw (h, eq-eqb s.at u (on_at s ss u n h), eq-eqb m m refl))
    (λ h. rw (h, eq-eqb u u refl, eq-eqb m m refl))

pub record Stored (js : List Job) (ss : List Span) (u time to : ℕ) (p : Put) : Type 0 where
  pub entries_is : p.entries ≡ length (extended_to ss u time to)
  pub last_is : p.span ≡ latest (extended_to ss u time to)
  pub job_is : p.span.at ≡ u
  pub below : p.entry < p.entries
  pub buffer : (b : List ℕ) → patched (patched b 0 (rows js ss)) (4 * p.entry) (row js p.span) ≡ patched b 0 (rows js (extended_to ss u time to))

-- where a leg of the job at u goes in a trace of n entries
abbrev pub put_at : Span → ℕ → ℕ → ℕ → ℕ → Put
put_at last n u time to =
    let on = ltb 0 n && (eqb last.at u && eqb last.to time) in
    record { entry = cond on (n - 1) n; entries = cond on n (n + 1); span = record { at = u; from = cond on last.from time; to = to } }

module _ (js : List Job) (u time to : ℕ) where
  abbrev new : Span
  new = record { at = u; from = time; to = to }

  new_buffer : (ss : List Span) (b : List ℕ) → patched (patched b 0 (rows js ss)) (4 * length ss) (row js new) ≡ patched b 0 (rows js (new ∷ ss))
  new_buffer ss b =
      let l : 4 * length ss ≡ 0 + length (rows js ss) = omega (arith, rows-length js ss) in
      rw (l, rows_next) (patched_more b 0 (rows js ss) (row js new) (omega arith))

  extended_fresh : (ss : List Span) → goes_on ss u time ≡ false → extended_to ss u time to ≡ new ∷ ss
  extended_fresh [] h = refl
  extended_fresh (s ∷ ss) h = rw h

  fresh : (ss : List Span) → goes_on ss u time ≡ false → Stored js ss u time to (record { entry = length ss; entries = length ss + 1; span = new })
  fresh ss h =
      let e : extended_to ss u time to ≡ new ∷ ss = extended_fresh ss h in
      record {
        entries_is = omega (arith, ap length e);
        last_is = sym (ap latest e);
        job_is = refl;
        below = omega arith;
        buffer = λ b. new_buffer ss b ∙ ap (λ (l : List Span). patched b 0 (rows js l)) (sym e);
      }

  abbrev longer : Span → Span
  longer s = record { at = u; from = s.from; to = to }

  extended-goes_on : (s : Span) (ss : List Span) → goes_on (s ∷ ss) u time ≡ true → extended_to (s ∷ ss) u time to ≡ longer s ∷ ss
  extended-goes_on s ss h = rw (h, on_at s ss u time h)

  goes : (s : Span) (ss : List Span) → goes_on (s ∷ ss) u time ≡ true
      → Stored js (s ∷ ss) u time to (record { entry = suc (length ss) - 1; entries = suc (length ss); span = longer s })
  goes s ss h =
      let e : extended_to (s ∷ ss) u time to ≡ longer s ∷ ss = extended-goes_on s ss h in
      let place : 4 * (suc (length ss) - 1) ≡ length (rows js ss) = omega (arith, rows-length js ss) in
      record {
        entries_is = sym (ap length e);
        last_is = sym (ap latest e);
        job_is = refl;
        below = omega arith;
        buffer = λ b.
            rw (place, rows_next) (patched_over b (rows js ss) (row js s) (row js (longer s)) refl)
            ∙ ap (patched b 0) (sym (rows_next js (longer s) ss))
            ∙ ap (λ (l : List Span). patched b 0 (rows js l)) (sym e);
      }

  put_none : put_at (latest []) 0 u time to ≡ record { entry = 0; entries = 0 + 1; span = new }
  put_none = refl

  put_on : (s : Span) (ss : List Span) → goes_on (s ∷ ss) u time ≡ true
      → put_at s (suc (length ss)) u time to ≡ record { entry = suc (length ss) - 1; entries = suc (length ss); span = longer s }
  put_on s ss h = rw (lt-ltb 0 (suc (length ss)) (omega arith), h)

  put-new : (s : Span) (ss : List Span) → goes_on (s ∷ ss) u time ≡ false
      → put_at s (suc (length ss)) u time to ≡ record { entry = suc (length ss); entries = suc (length ss) + 1; span = new }
  put-new s ss h = rw (lt-ltb 0 (suc (length ss)) (omega arith), h)

  stored_here : (ss : List Span) → Stored js ss u time to (put_at (latest ss) (length ss) u time to)
  stored_here [] = subst (Stored js [] u time to) (sym put_none) (fresh [] refl)
  stored_here (s ∷ ss) =
      by_test (goes_on (s ∷ ss) u time)
      (λ h. subst (Stored js (s ∷ ss) u time to) (sym (put_on s ss h)) (goes s ss h))
      (λ h. subst (Stored js (s ∷ ss) u time to) (sym (put-new s ss h)) (fresh (s ∷ ss) h))

  pub put-stored : (ss : List Span) (last : Span) (n : ℕ) → last ≡ latest ss → n ≡ length ss → Stored js ss u time to (put_at last n u time to)
  put-stored ss last n e f = rw (e, f) (stored_here ss)

-- ---- spans, one tick or leg more
module _ (t : Table) (times : List ℕ) where
  spans-ran : (u time : ℕ) → entry t times time ≡ runs u → spans t times (time + 1) ≡ extended (spans t times time) u time
  unfolding spans
  spans-ran u time e = rw (add-one, e)

  spans_idle : (time : ℕ) → entry t times time ≡ idle → spans t times (suc time) ≡ spans t times time
  unfolding spans noted
  spans_idle time e = rw e

  -- a leg of the job at u, and an idle one
  spans_leg : (u time d : ℕ) → ((k : ℕ) → time ≤ k → k < time + suc d → entry t times k ≡ runs u)
      → spans t times (time + suc d) ≡ extended_to (spans t times time) u time (time + suc d)
  spans_leg u time zero h =
      let e : time + suc zero ≡ suc time = omega arith in
      rw (e, ← add-one time) (spans-ran u time (h time (omega arith) (omega arith)) ∙ rw (add-one time) (extended_one (spans t times time) u time))
  spans_leg u time (suc d) h =
      let before = spans_leg u time d (λ k a b. h k a (omega arith)) in
      rw (add-suc time (suc d), ← add-one (time + suc d))
      (spans-ran u (time + suc d) (h (time + suc d) (omega arith) (omega arith)) ∙ rw (before, add-one (time + suc d)) (extended_more (spans t times time) u time (time + suc d)))

  spans_still : (time d : ℕ) → ((k : ℕ) → time ≤ k → k < time + d → entry t times k ≡ idle) → spans t times (time + d) ≡ spans t times time
  spans_still time zero h = rw add-zero
  spans_still time (suc d) h = rw add-suc (spans_idle (time + d) (h (time + d) (omega arith) (omega arith)) ∙ spans_still time d (λ k a b. h k a (omega arith)))

  pub spans_settled : (n : ℕ) → all_complete times (after t times n).work t.count ≡ true → (m : ℕ) → spans t times (n + m) ≡ spans t times n
  spans_settled n h zero = rw add-zero
  spans_settled n h (suc m) = rw add-suc (spans_idle (n + m) (entry_settled t times n h m) ∙ spans_settled n h m)

-- ---- the loop's head
pub record Written (js : List Job) (t : Table) (times before out : List ℕ) (last : Span) (entries time : ℕ) : Type 0 where
  pub count : entries ≡ length (spans t times time)
  pub latest_is : last ≡ latest (spans t times time)
  pub buffer : out ≡ patched before 0 (rows js (spans t times time))

module _ (js : List Job) {t : Table} {times before : List ℕ} where
  pub written_start : Written js t times before before (record { at = 0; from = 0; to = 0 }) 0 0
  unfolding spans rows patched
  written_start = record { count = refl; latest_is = refl; buffer = refl }

  module _ (r : Runnable t times) (room : 8 * t.count ≤ length before) {out : List ℕ} {last : Span} {entries time : ℕ} (w : Written js t times before out last entries time) where
    few_spans : (n : ℕ) → length (spans t times n) ≤ 2 * t.count
    few_spans = spans_within_twice t times last_release r.few r.released

    pub written_few : entries ≤ 2 * max_jobs
    written_few = omega (arith, w.count, few_spans time, r.few)

    pub written-length : length out ≡ length before
    written-length = ap length w.buffer ∙ length-patched before 0 (rows js (spans t times time)) (omega (arith, rows-length js (spans t times time), few_spans time))

    pub written_idle : (ticks : ℕ) → ((k : ℕ) → time ≤ k → k < time + ticks → entry t times k ≡ idle) → Written js t times before out last entries (time + ticks)
    written_idle ticks h =
        let q : spans t times (time + ticks) ≡ spans t times time = spans_still t times time ticks h in
        record { count = w.count ∙ ap length (sym q); latest_is = w.latest_is ∙ ap latest (sym q); buffer = w.buffer ∙ ap (λ (l : List Span). patched before 0 (rows js l)) (sym q) }

    -- the job at u runs
    module _ (u ticks : ℕ) (some : 0 < ticks) (e : (k : ℕ) → time ≤ k → k < time + ticks → entry t times k ≡ runs u) (p : Put) (q : p ≡ put_at last entries u time (time + ticks)) where
      here : Stored js (spans t times time) u time (time + ticks) p
      here = subst (Stored js (spans t times time) u time (time + ticks)) (sym q) (put-stored js u time (time + ticks) (spans t times time) last entries w.latest_is w.count)

      leg_spans : spans t times (time + ticks) ≡ extended_to (spans t times time) u time (time + ticks)
      leg_spans =
          let whole : suc (ticks - 1) ≡ ticks = omega arith in
          subst (λ (d : ℕ). spans t times (time + d) ≡ extended_to (spans t times time) u time (time + d)) whole (spans_leg t times u time (ticks - 1) (λ k a b. e k a (omega arith)))

      pub put_room : 4 * p.entry + 3 < length out
      put_room = omega (arith, here.below, here.entries_is, ap length leg_spans, few_spans (time + ticks), written-length)

      pub written-ran : (job : Job) → job_at js u ≡ job
          → Written js t times before (patched out (4 * p.entry) (job.chain ∷ job.job ∷ p.span.from ∷ p.span.to ∷ [])) p.span p.entries (time + ticks)
      written-ran job j =
          let j' : job ≡ job_at js p.span.at = sym j ∙ ap (job_at js) (sym here.job_is) in
          record {
            count = here.entries_is ∙ ap length (sym leg_spans);
            latest_is = here.last_is ∙ ap latest (sym leg_spans);
            buffer = rw (j', w.buffer) (here.buffer before) ∙ ap (λ (l : List Span). patched before 0 (rows js l)) (sym leg_spans);
          }

    -- the end
    module _ {work completed : List ℕ} {left release : ℕ} (h : Reached t times work completed left time release) (none : left ≤ 0) where
      whole : spans t times last_time ≡ spans t times time
      whole = at_limit (spans t times) time (spans_settled t times time (reached_settled r h none)) (reached_limit r h none)

      pub written_count : entries ≡ length (spans t times last_time)
      written_count = w.count ∙ ap length (sym whole)

      pub written_all : out ≡ patched before 0 (rows js (spans t times last_time))
      written_all = w.buffer ∙ ap (λ (l : List Span). patched before 0 (rows js l)) (sym whole)

-- ---- the checks
module _ (js : List Job) (times buffer : List ℕ) where
  pub trace_refused : (r : Refusal) → machine_check js times ≡ Err r → (trace_of js times (length buffer) ≡ Err r) × (traced_in js times buffer ≡ buffer)
  unfolding trace_of traced_in trace_check
  trace_refused r e = (rw e, rw e)

  module _ (passed : machine_check js times ≡ Ok tt) where
    pub trace_short : length buffer < 8 * length js → (trace_of js times (length buffer) ≡ Err ShortBuffer) × (traced_in js times buffer ≡ buffer)
    unfolding trace_of traced_in trace_check
    trace_short l = (rw (passed, lt-leb (8 * length js) (length buffer) l), rw (passed, lt-leb (8 * length js) (length buffer) l))

    pub trace_written : 8 * length js ≤ length buffer
        → (trace_of js times (length buffer) ≡ Ok (record { entries = length (traced js times); steps = steps_of (table_of js) times })) × (traced_in js times buffer ≡ patched buffer 0 (rows js (traced js times)))
    unfolding trace_of traced_in trace_check
    trace_written l = (rw (passed, le-leb (8 * length js) (length buffer) l), rw (passed, le-leb (8 * length js) (length buffer) l))

pub traced-length : (js : List Job) (times buffer : List ℕ) → machine_check js times ≡ Ok tt → 8 * length js ≤ length buffer
    → length (patched buffer 0 (rows js (traced js times))) ≡ length buffer
traced-length js times buffer passed room =
    let r = runnable js times passed in
    length-patched buffer 0 (rows js (traced js times)) (omega (arith, rows-length js (traced js times), spans_within_twice (table_of js) times last_release r.few r.released last_time))
