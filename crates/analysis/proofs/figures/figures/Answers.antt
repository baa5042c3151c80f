-- `figures` answers `figures_of`. Assumes nothing.
use Rattle.analysis.specs.Answers.{figures_of}
use Rattle.completion.proofs.Passing.{ert_answered, ert_refused, cja_answered, cja_refused, itr_answered, itr_refused}
use Rattle.completion.specs.declared.answer.ItrAlone.{ItrAlone}
use borrow.Author.Rules.{rules}
use mathlib.Core.Path.{sym, ap, ◌∙◌}
use Rattle.analysis.proofs.figures.figures.Goals as goal

pub returns-in_err-answer : goal.returns-in_err-answer
unfolding figures_of
returns-in_err-answer c = rw (itr_refused c.args.set _ (sym c.in_err-answer.was ∙ c.itr_alone.ensures)) (search rules)

pub slacks_by-slacks-requires : goal.slacks_by-slacks-requires
slacks_by-slacks-requires c =
    let accepted = itr_answered c.args.set _ (sym c.in_ok-answer.was ∙ c.itr_alone.ensures) in
    record { set_value = accepted.0; bounds_value = ap (λ (a : ItrAlone). a.bounds) accepted.1 }

pub returns-in_err-ert : goal.returns-in_err-ert
unfolding figures_of
returns-in_err-ert c = rw (ert_refused c.args.set _ (sym c.in_err-ert.was ∙ c.ert_alone.ensures)) (search rules)

pub returns-in_err-cja : goal.returns-in_err-cja
unfolding figures_of
returns-in_err-cja c = rw (cja_refused c.args.set _ (sym c.in_err-cja.was ∙ c.cja_alone.ensures)) (search rules)

pub returns : goal.returns
unfolding figures_of
returns c =
    let by_ert = ert_answered c.args.set _ (sym c.in_ok-ert.was ∙ c.ert_alone.ensures) in
    let by_cja = cja_answered c.args.set _ (sym c.in_ok-cja.was ∙ c.cja_alone.ensures) in
    let by_itr = itr_answered c.args.set _ (sym c.in_ok-answer.was ∙ c.itr_alone.ensures) in
    rw (by_itr.0, by_ert.1, by_cja.1, by_itr.1, c.slacks_by-slacks.ensures)
