-- `waveform_text` answers `answer_for most_waveform`, and leaves `left_for most_waveform`. Assumes nothing.
use Prim.Native.Nat.{ℕ, ◌≤◌}
use Rattle.std.proofs.lemmas.Result.{err_from_is_err_and}
use Rattle.jobs.proofs.Accepted.{accepted}
use Rattle.jobs.proofs.MostTimes.{most_length, most_lent}
use Rattle.jobs.proofs.Sets.{length_jobs}
use Rattle.jobs.specs.Jobs.{jobs_of}
use Rattle.jobs.specs.Limits.{max_jobs}
use Rattle.std.specs.Prelude.{Result, Ok}
use Rattle.table.proofs.Accepting.{read_passed}
use Rattle.table.specs.Tables.{reading_of}
use Rattle.jobs.specs.declared.refusal.Refusal.{Refusal}
use Rattle.jobs.specs.declared.set.JobSet.{JobSet}
use Rattle.texts.specs.Answers.{answer_for, left_for}
use Rattle.waveform.proofs.Answered.{most_answer}
use lib.Seq.{length-take-le}
use mathlib.Core.List.{List}
use mathlib.Core.Path.{◌≡◌, sym, ◌∙◌}
use native.Mathlib.Omega.{arith}
use Rattle.waveform.proofs.waveform.waveform_text.Goals as goal

-- a set that passed has few jobs
few_of : (text : List ℕ) (reading : Result JobSet Refusal) (set : JobSet) → reading ≡ reading_of text → reading ≡ Ok set → set.count ≤ max_jobs
few_of text reading set is told =
    let passed = read_passed _ _ is told in
    omega (arith, length_jobs set, (accepted (jobs_of set) passed).few)

pub returns-in_err-set : goal.returns-in_err-set
unfolding answer_for left_for
returns-in_err-set c =
    let p = err_from_is_err_and c.from_residual.result c.from_residual.ensures.1 in
    let e = sym c.read.ensures ∙ c.in_err-set.was in
    (rw (p.1, p.2, e), rw e)

pub slice_bounds-most-end : goal.slice_bounds-most-end
slice_bounds-most-end c =
    let few = few_of _ _ _ c.read.ensures c.in_ok-set.was in
    omega (arith, few, most_length c.in_ok-set.set c.most_times-most.result c.most_times-most.ensures)

pub slice_bounds-write_waveform-end : goal.slice_bounds-write_waveform-end
slice_bounds-write_waveform-end c =
    let few = few_of _ _ _ c.read.ensures c.in_ok-set.was in
    sym (length-take-le _ c.most_times-most.result (omega (arith, few, most_length c.in_ok-set.set c.most_times-most.result c.most_times-most.ensures)))

pub returns : goal.returns
unfolding answer_for left_for
returns c =
    let is = c.read.ensures in
    let told = c.in_ok-set.was in
    let set = c.in_ok-set.set in
    let lent = most_lent set c.most_times-most.result (few_of _ _ _ is told) c.most_times-most.ensures in
    let value = rw lent at c.write_waveform.ensures.value in
    let left = rw lent at c.write_waveform.ensures.out_after in
    let whole = most_answer (jobs_of set) (read_passed _ _ is told) _ (value, left) in
    rw (sym is ∙ told) whole
