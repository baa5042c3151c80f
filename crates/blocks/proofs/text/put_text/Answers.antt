-- `put_text` leaves as much of the text as fits. Assumes nothing.
use Prim.Native.Nat.{◌+◌, ◌≤◌}
use Rattle.blocks.specs.Texts.{blocks_header, blocks_rows, max_blocks_text}
use Rattle.jobs.proofs.Chains.{chains_are}
use Rattle.jobs.proofs.Sets.{length_jobs}
use Rattle.jobs.specs.Jobs.{jobs_of}
use Rattle.laws.proofs.Clipped.{put-start, put_then}
use Rattle.texts.specs.Lines.{lines_text}
use lib.ListN.{length, length-append}
use native.Mathlib.Omega.{arith}
use Rattle.blocks.proofs.text.put_text.Goals as goal

-- the last job's chain is how many chains there are
pub put_rows-requires : goal.put_rows-requires
put_rows-requires c =
    let a = c.args in
    let set = a.set in
    let told = chains_are (jobs_of set) c.last_of-last.result c.last_of-last.ensures (omega (arith, length_jobs set, c.requires.count_le_max_jobs.0)) in
    let rows = lines_text (blocks_rows (jobs_of set) a.delays (length (jobs_of set))) in
    let room : c.put_bytes-rows.result + length rows ≤ max_blocks_text = omega (arith, c.requires.delays_len_bound, length-append blocks_header rows, c.put_bytes-rows.ensures.0) in
    record { count_le_max_jobs = (c.requires.count_le_max_jobs.0, omega (arith, told, c.requires.count_le_max_jobs.1), told); count_bound = rw (length_jobs set) at room }

pub returns : goal.returns
returns c = rw (length_jobs c.args.set) (put_then (put-start blocks_header c.put_bytes-rows.ensures) c.put_rows.ensures)
