-- `blocks_text` answers `answer_for blocks_text`, and leaves `left_for blocks_text`. Assumes nothing.
use Rattle.std.proofs.lemmas.Result.{err_from_is_err_and}
use Rattle.blocks.proofs.Fits.{blocks_fit}
use Rattle.blocks.proofs.NamedTexts.{itr_some, named_text}
use Rattle.blocks.specs.Texts.{delays_text, blocks_text}
use Rattle.jobs.proofs.Accepted.{accepted}
use Rattle.jobs.proofs.Chains.{chains-within}
use Rattle.jobs.proofs.Sets.{length_jobs}
use Rattle.jobs.specs.Checks.{check_of}
use Rattle.jobs.specs.Jobs.{jobs_of}
use Rattle.std.specs.Prelude.{Ok}
use Rattle.table.proofs.Accepting.{read_passed}
use Rattle.texts.specs.Answers.{answer_for, left_for}
use lib.ListN.{length}
use mathlib.Core.Path.{◌≡◌, sym, ap, ◌∙◌}
use native.Mathlib.Omega.{arith}
use Rattle.blocks.proofs.text.blocks_text.Goals as goal

pub returns-in_err-set : goal.returns-in_err-set
unfolding answer_for left_for
returns-in_err-set c =
    let p = err_from_is_err_and c.from_residual.result c.from_residual.ensures.1 in
    let e = sym c.read.ensures ∙ c.in_err-set.was in
    record { value = rw (p.1, p.2, e); out_after = rw e }

pub returns-in_err-named : goal.returns-in_err-named
returns-in_err-named c = absurd (itr_some _ _ (sym c.in_err-named.was ∙ c.itr.ensures) (read_passed _ _ c.read.ensures c.in_ok-set.was))

pub invariant_of-text : goal.invariant_of-text
invariant_of-text c =
    let set = c.in_ok-set.set in
    let passed : check_of (jobs_of set) ≡ Ok tt = read_passed _ _ c.read.ensures c.in_ok-set.was in
    let text_is = named_text set c.in_ok-named.named (sym c.in_ok-named.was ∙ c.itr.ensures) passed in
    let ok = accepted (jobs_of set) passed in
    record {
      few = (omega (arith, length_jobs set, ok.few), chains-within (jobs_of set) ok);
      short = omega (arith, ap length text_is, blocks_fit (jobs_of set) passed);
    }

pub returns : goal.returns
unfolding answer_for left_for
returns c =
    let set = c.in_ok-set.set in
    let told = sym c.read.ensures ∙ c.in_ok-set.was in
    let passed : check_of (jobs_of set) ≡ Ok tt = read_passed _ _ c.read.ensures c.in_ok-set.was in
    let text_is : delays_text (jobs_of set) c.in_ok-named.named.delays ≡ blocks_text (jobs_of set) = named_text set c.in_ok-named.named (sym c.in_ok-named.was ∙ c.itr.ensures) passed in
    record {
      value = rw told (rw text_is at c.write_blocks.ensures.value);
      out_after = rw told (rw text_is at c.write_blocks.ensures.out_after);
    }
