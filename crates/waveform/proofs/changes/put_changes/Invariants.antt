-- `put_changes` leaves as much of the changes as fits. The loop's invariant: those of the first n entries stand, and `last` is their last time. Assumes nothing.
use Prim.Native.Nat.{ℕ, ◌-◌}
use Rattle.dumps.proofs.Entries.{span_at, spans_of}
use Rattle.dumps.specs.Dumps.{lines_text, span_lines, change_lines, last_change}
use Rattle.jobs.specs.Jobs.{jobs_of}
use Rattle.laws.proofs.ClippedPieces.{PiecesPut}
use mathlib.Core.List.{List}
use mathlib.Core.Path.{◌≡◌}
use Rattle.waveform.proofs.changes.put_changes.Given as goal

abbrev pub invariant-loop-n : goal.invariant-loop-n
invariant-loop-n l =
    let js = jobs_of l.set in
    let whole : ℕ → List ℕ = λ k. lines_text (change_lines (spans_of js l.numbers k)) in
    let piece : ℕ → List ℕ = λ k. lines_text (span_lines (last_change (spans_of js l.numbers k)) (span_at js l.numbers k)) in
    PiecesPut whole piece l.entries l.initial.out l.at l.out l.next l.n
    × (l.last ≡ last_change (spans_of js l.numbers l.n))
