-- A dump read gives the rows of its spans back, whatever spans in order they are. Assumes nothing.
use Rattle.std.specs.Prelude.{None, Some}
use Prim.Native.Nat.{ℕ}
use mathlib.Core.Path.{◌≡◌}
use mathlib.Core.List.{List, [], ◌++◌, append_assoc}
use lib.ListN.{length}
use Rattle.jobs.specs.declared.job.Job.{Job}
use Rattle.jobs.proofs.Accepted.{Accepted}
use Rattle.machine.specs.declared.trace.Span.{Span}
use Rattle.machine.specs.Ticks.{last_time}
use Rattle.machine.specs.Runs.{rows}
use Rattle.machine.proofs.SpanTimes.{EndedBy}
use Rattle.machine.proofs.SpanOrder.{Ordered, Within}
use Rattle.dumps.specs.Dumps.{header_lines, start_lines, last_change, change_lines, dump_of}
use Rattle.dumps.specs.Readers.{unknown, lines_in, rows_in}
use Rattle.dumps.proofs.Cuts.{whole_append, lines_back}
use Rattle.dumps.proofs.WholeLines.{header_whole, start_whole, changes_whole}
use Rattle.dumps.proofs.Definitions.{definitions_back}
use Rattle.dumps.proofs.Wires.{all_low_lem}
use Rattle.dumps.proofs.Readings.{Reads, reads_append, seen_as}
use Rattle.dumps.proofs.Values.{start_told}
use Rattle.dumps.proofs.Changes.{quiet, changes_told, one_first}

module _ (js : List Job) (ok : Accepted js) (ss : List Span) (ordered : Ordered ss) (within : Within (length js) ss) (ended : EndedBy last_time ss) where
  -- what comes after the definitions
  abbrev body : List (List ℕ)
  body = start_lines (length js) ss ++ change_lines ss

  lines_are : lines_in (dump_of js ss) ≡ Some (header_lines js ++ body)
  unfolding dump_of
  lines_are =
      let regroup = append_assoc (header_lines js) (start_lines (length js) ss) (change_lines ss) in
      rw regroup
      (lines_back (header_lines js ++ body)
      (whole_append (header_lines js) body (header_whole js)
      (whole_append (start_lines (length js) ss) (change_lines ss) (start_whole (length js) ss) (changes_whole ss))))

  body_told : Reads body (seen_as js None (λ k. unknown) []) (seen_as js (Some (last_change ss)) quiet (rows js ss))
  body_told = reads_append (start_lines (length js) ss) (change_lines ss) _ (start_told js ss (one_first ss ordered)) (changes_told js ss ordered within ended)

  pub dump_gives_back : rows_in (dump_of js ss) ≡ Some (rows js ss)
  unfolding rows_in
  dump_gives_back = rw (lines_are, definitions_back js ok body, body_told, all_low_lem js)
