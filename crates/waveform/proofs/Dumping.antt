-- The whole dump as the code writes it: its text in six parts, which have room. Assumes nothing.
use Prim.Native.Nat.{ℕ, ◌+◌, ◌≤◌, ◌<◌}
use mathlib.Core.Path.{◌≡◌, sym, ap, ◌∙◌}
use mathlib.Core.List.{List, ◌++◌}
use native.Mathlib.Omega.{arith}
use lib.Dec.{eqb}
use lib.ListN.{length, length-append}
use Rattle.laws.specs.Words.{tabulate}
use Rattle.jobs.specs.declared.set.JobSet.{JobSet}
use Rattle.jobs.specs.Jobs.{jobs_of}
use Rattle.jobs.proofs.Sets.{length_jobs}
use Rattle.dumps.specs.Dumps.{lines_text, wire_line, value_line, runs_first, change_lines, dump_of}
use Rattle.dumps.specs.Claims.{max_waveform}
use Rattle.dumps.proofs.Entries.{spans_of, first_place, Drawn}
use Rattle.dumps.proofs.LineTexts.{top_text, middle_text, end_text, dump_text}

abbrev pub wires_text : JobSet → List ℕ
wires_text set = lines_text (tabulate 0 set.count (wire_line (jobs_of set)))

abbrev pub values_text : ℕ → ℕ → List ℕ
values_text first count = lines_text (tabulate 0 count (λ u. value_line (eqb first u) u))

abbrev pub changes_text : JobSet → List ℕ → ℕ → List ℕ
changes_text set numbers n = lines_text (change_lines (spans_of (jobs_of set) numbers n))

module _ (set : JobSet) (numbers : List ℕ) (n first : ℕ) (drawn : Drawn (jobs_of set) numbers n) (is : first ≡ first_place (spans_of (jobs_of set) numbers n)) where
  abbrev start : List ℕ
  start = top_text ++ wires_text set ++ middle_text ++ values_text first set.count ++ end_text

  value : (u : ℕ) → u < set.count → runs_first (spans_of (jobs_of set) numbers n) u ≡ eqb first u
  value u l = drawn.first u (omega (arith, length_jobs set)) ∙ ap (λ (k : ℕ). eqb k u) (sym is)

  pub whole_text : dump_of (jobs_of set) (spans_of (jobs_of set) numbers n) ≡ start ++ changes_text set numbers n
  whole_text = dump_text (jobs_of set) (spans_of (jobs_of set) numbers n) first set.count (sym (length_jobs set)) value

  pub parts_fit : length top_text + length (wires_text set) + length middle_text + length (values_text first set.count) + length end_text
      + length (changes_text set numbers n)
      ≤ max_waveform
  parts_fit =
      omega (
        arith,
        drawn.fits,
        ap length whole_text,
        length-append start (changes_text set numbers n),
        length-append (top_text ++ wires_text set ++ middle_text ++ values_text first set.count) end_text,
        length-append (top_text ++ wires_text set ++ middle_text) (values_text first set.count),
        length-append (top_text ++ wires_text set) middle_text,
        length-append top_text (wires_text set),
      )
