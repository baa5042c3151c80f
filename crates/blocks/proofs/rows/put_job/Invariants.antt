-- `put_job` leaves as much of a job's rows as fits. The loop's invariant: those of the first n chains stand.
-- Assumes nothing.
use Prim.Native.Nat.{◌-◌}
use Rattle.blocks.proofs.RowTexts.{chain_text}
use Rattle.blocks.specs.Texts.{job_rows}
use Rattle.laws.proofs.ClippedPieces.{PiecesPut}
use Rattle.texts.specs.Lines.{lines_text}
use Rattle.blocks.proofs.rows.put_job.Given as goal

abbrev pub invariant-loop-n : goal.invariant-loop-n
invariant-loop-n l =
    PiecesPut (λ k. lines_text (job_rows k l.job l.delay)) (chain_text l.job l.delay) l.chains l.initial.out l.at l.out l.next l.n
