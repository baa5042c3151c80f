-- `put_values` leaves as much of the values as fits. The loop's invariant: those of the first n wires stand. Assumes nothing.
use Prim.Native.Nat.{◌-◌}
use Rattle.dumps.proofs.LineTexts.{line_text}
use Rattle.dumps.specs.Dumps.{lines_text, value_line}
use Rattle.laws.proofs.ClippedPieces.{PiecesPut}
use Rattle.laws.specs.Words.{tabulate}
use lib.Dec.{eqb}
use Rattle.waveform.proofs.wires.put_values.Given as goal

abbrev pub invariant-loop-n : goal.invariant-loop-n
invariant-loop-n l =
    PiecesPut (λ k. lines_text (tabulate 0 k (λ u. value_line (eqb l.first u) u))) (λ k. line_text (value_line (eqb l.first k) k)) l.count l.initial.out l.at l.out l.next l.n
