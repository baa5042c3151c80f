-- `write_waveform` answers `waveform_answer`, and leaves `waveform_left`. Assumes nothing.
use Prim.Native.Nat.{ℕ, ◌*◌, ◌≤◌}
use Rattle.std.proofs.lemmas.Result.{err_from_is_err_and}
use Rattle.jobs.specs.Jobs.{jobs_of}
use Rattle.jobs.specs.Limits.{max_jobs}
use Rattle.waveform.proofs.Answered.{entered, waveform_refused, waveform_written}
use lib.ListN.{length, replicate, length-replicate}
use mathlib.Core.Path.{◌∙◌}
use native.Mathlib.Omega.{arith}
use Rattle.waveform.proofs.waveform.write_waveform.Goals as goal

-- the buffer lent to the machine has room for every trace
room : 8 * max_jobs ≤ length (replicate {A = ℕ} (8 * max_jobs) 0)
room = omega (arith, length-replicate {A = ℕ} (8 * max_jobs) 0)

pub invariant_of-dump : goal.invariant_of-dump
invariant_of-dump c = record { drawn = (entered (jobs_of c.args.set) c.args.times.now (replicate (8 * max_jobs) 0) room c.trace.ensures _ c.in_ok-traced.was).drawn }

pub returns-in_err-traced : goal.returns-in_err-traced
returns-in_err-traced c =
    let p = err_from_is_err_and c.from_residual.result c.from_residual.ensures.1 in
    let both = waveform_refused (jobs_of c.args.set) c.args.times.now (replicate (8 * max_jobs) 0) room c.trace.ensures _ c.in_err-traced.was c.args.out.now in
    record { value = rw (p.1, p.2) both.0; out_after = both.1 }

pub returns : goal.returns
returns c =
    let whole = waveform_written (entered (jobs_of c.args.set) c.args.times.now (replicate (8 * max_jobs) 0) room c.trace.ensures _ c.in_ok-traced.was) c.args.out.now in
    record { value = c.write_dump.ensures.value ∙ whole.0; out_after = c.write_dump.ensures.out_after ∙ whole.1 }
