-- `put_wires` leaves as much of the declarations as fits. The loop's invariant: those of the first n wires stand. Assumes nothing.
use Prim.Native.Nat.{◌-◌}
use Rattle.dumps.proofs.LineTexts.{line_text}
use Rattle.dumps.specs.Dumps.{lines_text, wire_line}
use Rattle.jobs.specs.Jobs.{jobs_of}
use Rattle.laws.proofs.ClippedPieces.{PiecesPut}
use Rattle.laws.specs.Words.{tabulate}
use Rattle.waveform.proofs.wires.put_wires.Given as goal

abbrev pub invariant-loop-n : goal.invariant-loop-n
invariant-loop-n l =
    PiecesPut (λ k. lines_text (tabulate 0 k (wire_line (jobs_of l.set)))) (λ k. line_text (wire_line (jobs_of l.set) k)) l.count l.initial.out l.at l.out l.next l.n
