-- `put_rows` leaves as much of all rows as fits. The loop's invariant: those of the first n jobs stand. Assumes nothing.
use Prim.Native.Nat.{◌-◌}
use Rattle.blocks.specs.Texts.{job_rows, blocks_rows}
use Rattle.completion.specs.Delays.{no_delay}
use Rattle.jobs.specs.Jobs.{job_at, jobs_of, chains_of}
use Rattle.laws.proofs.ClippedPieces.{PiecesPut}
use Rattle.texts.specs.Lines.{lines_text}
use lib.ListN.{get_or}
use Rattle.blocks.proofs.rows.put_rows.Given as goal

abbrev pub invariant-loop-n : goal.invariant-loop-n
invariant-loop-n l =
    let js = jobs_of l.set in
    PiecesPut (λ k. lines_text (blocks_rows js l.delays k)) (λ k. lines_text (job_rows (chains_of js) (job_at js k) (get_or l.delays k no_delay))) l.count l.initial.out l.at l.out l.next l.n
