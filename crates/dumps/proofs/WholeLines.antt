-- No line of a dump has an LF. Assumes nothing.
use Prim.Native.Nat.{ℕ, suc}
use mathlib.Core.Path.{◌≡◌, refl}
use mathlib.Core.Bool.{Bool, true, false, cond}
use mathlib.Core.List.{List, [], ◌∷◌, ◌++◌}
use native.Mathlib.Omega.{arith}
use lib.Dec.{eqb}
use lib.ListN.{length}
use Rattle.laws.specs.Words.{tabulate, ascii}
use Rattle.decimal.proofs.Absence.{lacks, lacks-cons, lacks-append, lacks-decimal}
use Rattle.jobs.specs.declared.job.Job.{Job}
use Rattle.jobs.specs.Jobs.{job_at}
use Rattle.machine.specs.declared.trace.Span.{Span}
use Rattle.dumps.specs.Identifiers.{identifier_of}
use Rattle.dumps.specs.Dumps.{name_of, declares, wire_line, header_lines, time_line, value_line, runs_first, start_lines, last_change, time_after, rise_after, span_lines, change_lines}
use Rattle.dumps.proofs.Identifiers.{identifier_lacks}
use Rattle.dumps.proofs.Cuts.{Whole, whole_append, whole_tabulate}
use Rattle.dumps.proofs.Definitions.{name_lacks}

wire_whole : (js : List Job) (u : ℕ) → lacks 10 (wire_line js u) ≡ true
unfolding declares lacks
wire_whole js u =
    let name = name_of (job_at js u).chain (job_at js u).job in
    lacks-append 10 (identifier_of (suc u) ++ ascii " " ++ name) (ascii " $end")
    (lacks-append 10 (identifier_of (suc u) ++ ascii " ") name
    (lacks-append 10 (identifier_of (suc u)) (ascii " ") (identifier_lacks 10 u (omega arith)) refl)
    (name_lacks 10 (job_at js u).chain (job_at js u).job (omega arith)))
    refl

pub header_whole : (js : List Job) → Whole (header_lines js)
unfolding header_lines lacks
header_whole js = (refl, (refl, whole_append (tabulate 0 (length js) (wire_line js)) _ (whole_tabulate (wire_line js) (wire_whole js) 0 (length js)) (refl, (refl, tt))))

time_whole : (t : ℕ) → lacks 10 (time_line t) ≡ true
time_whole t = lacks-cons 10 35 _ (λ e. omega arith) (lacks-decimal 10 t (omega arith))

value_whole : (value : Bool) (u : ℕ) → lacks 10 (value_line value u) ≡ true
value_whole true u = lacks-cons 10 49 _ (λ e. omega arith) (identifier_lacks 10 u (omega arith))
value_whole false u = lacks-cons 10 48 _ (λ e. omega arith) (identifier_lacks 10 u (omega arith))

pub start_whole : (n : ℕ) (ss : List Span) → Whole (start_lines n ss)
unfolding start_lines lacks
start_whole n ss =
    let line : ℕ → List ℕ = λ u. value_line (runs_first ss u) u in
    (time_whole 0, (refl, whole_append (tabulate 0 n line) (ascii "$end" ∷ []) (whole_tabulate line (λ u. value_whole (runs_first ss u) u) 0 n) (refl, tt)))

when_whole : (b : Bool) (lines : List (List ℕ)) → Whole lines → Whole (cond b [] lines)
when_whole true lines h = tt
when_whole false lines h = h

rise_whole : (last : ℕ) (s : Span) → Whole (rise_after last s)
rise_whole last s =
    when_whole (eqb s.from 0) (time_after last s.from ++ (value_line true s.at ∷ []))
    (whole_append (time_after last s.from) (value_line true s.at ∷ [])
    (when_whole (eqb s.from last) (time_line s.from ∷ []) (time_whole s.from, tt))
    (value_whole true s.at, tt))

pub changes_whole : (ss : List Span) → Whole (change_lines ss)
unfolding change_lines
changes_whole [] = tt
changes_whole (s ∷ ss) =
    whole_append (change_lines ss) (span_lines (last_change ss) s) (changes_whole ss)
    (whole_append (rise_after (last_change ss) s) (time_line s.to ∷ value_line false s.at ∷ []) (rise_whole (last_change ss) s)
    (time_whole s.to, (value_whole false s.at, tt)))
