-- `put_rows` leaves as much of all rows as fits. The loop's invariant: those of the first n jobs stand. Assumes nothing.
use Prim.Native.Nat.{ℕ, ◌≤◌, ◌<◌}
use Rattle.blocks.proofs.RowTexts.{rows_made}
use Rattle.blocks.specs.Texts.{max_blocks_text}
use Rattle.completion.specs.Delays.{no_delay}
use Rattle.completion.specs.declared.answer.Delay.{Delay}
use Rattle.jobs.proofs.Sets.{job_at_lem}
use Rattle.jobs.specs.Jobs.{jobs_of, chains_of}
use Rattle.jobs.specs.Limits.{max_jobs}
use Rattle.laws.proofs.ClippedPieces.{put_pieces_none, put_pieces_within, put_pieces_more, put_pieces_end, put_pieces_length}
use Rattle.laws.proofs.Lists.{mapped_length, read_within}
use borrow.Author.Rules.{rules}
use lib.ListN.{length, get_or}
use mathlib.Core.List.{List, []}
use mathlib.Core.Path.{◌≡◌}
use native.Mathlib.Omega.{arith}
use Rattle.blocks.proofs.rows.put_rows.Goals as goal

-- what the code reads, whose default no place within shows
delay_at_lem : (delays : List Delay) (n count : ℕ) → n < count → count ≤ max_jobs → length delays ≡ max_jobs
    → get_or delays n no_delay ≡ get_or delays n (record { from = 0; blocks = [] })
delay_at_lem delays n count l few full = read_within delays n no_delay (record { from = 0; blocks = [] }) (omega arith)

pub loop-n-init : goal.loop-n-init
loop-n-init c = put_pieces_none (rows_made (jobs_of c.args.set) c.args.delays c.args.set.count) c.args.out.now c.args.at

pub put_job-next-requires : goal.put_job-next-requires
put_job-next-requires c =
    let a = c.args in
    let l = c.loop-n in
    let here : l.n < a.set.count = omega (arith, c.loop-n-test.true) in
    let same : a.chains ≡ chains_of (jobs_of a.set) = c.requires.count_le_max_jobs.2 in
    let full : length a.delays ≡ max_jobs = search (rules, mapped_length, c.well_formed) in
    let room = put_pieces_within l.invariant max_blocks_text c.requires.count_bound here in
    (c.requires.count_le_max_jobs.1, rw (← same, job_at_lem a.set l.n here, delay_at_lem a.delays l.n _ here c.requires.count_le_max_jobs.0 full) at room)

pub loop-n-preserved : goal.loop-n-preserved
loop-n-preserved c =
    let a = c.args in
    let l = c.loop-n in
    let here : l.n < a.set.count = omega (arith, c.loop-n-test.true) in
    let same : a.chains ≡ chains_of (jobs_of a.set) = c.requires.count_le_max_jobs.2 in
    let full : length a.delays ≡ max_jobs = search (rules, mapped_length, c.well_formed) in
    put_pieces_more l.invariant here (rw (← same, job_at_lem a.set l.n here, delay_at_lem a.delays l.n _ here c.requires.count_le_max_jobs.0 full) c.put_job-next.ensures)

pub shape_of-out : goal.shape_of-out
shape_of-out c = let h = put_pieces_length c.loop-n.invariant in search (rules, h)

pub returns : goal.returns
returns c = put_pieces_end c.loop-n.invariant (omega (arith, c.loop-n-test.false))
