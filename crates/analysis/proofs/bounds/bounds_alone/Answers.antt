-- `bounds_alone` answers the bounds of `bounds_of`, algorithm by algorithm. Assumes nothing.
use Rattle.analysis.proofs.Algorithms.{is_ert, is_cja, is_unknown, each_alone, itr_each_alone}
use Rattle.analysis.specs.Answers.{bounds_of}
use Rattle.completion.specs.Answers.{bounds_alone}
use mathlib.Core.Path.{sym, ap, ◌∙◌}
use Rattle.analysis.proofs.bounds.bounds_alone.Goals as goal

pub returns-in-Ok-Ert : goal.returns-in-Ok-Ert
returns-in-Ok-Ert c =
    c.ert_alone.ensures ∙ ap bounds_alone (is_ert c.args.set ∙ ap (bounds_of c.args.set) (rw c.in-Ok-Ert.field-0-is at c.in-Ok-Ert.ensures))

pub returns-in-Ok-Cja : goal.returns-in-Ok-Cja
returns-in-Ok-Cja c =
    c.cja_alone.ensures ∙ ap bounds_alone (is_cja c.args.set ∙ ap (bounds_of c.args.set) (rw c.in-Ok-Cja.field-0-is at c.in-Ok-Cja.ensures))

pub returns-in-Ok : goal.returns-in-Ok
returns-in-Ok c =
    let e = rw c.in-Ok-Itr.field-0-is at c.in-Ok-Itr.ensures in
    ap each_alone (sym c.in-Ok.is ∙ c.itr_alone.ensures) ∙ itr_each_alone c.args.set ∙ ap (λ n. bounds_alone (bounds_of c.args.set n)) e

pub returns-in-Err-itr_alone : goal.returns-in-Err-itr_alone
returns-in-Err-itr_alone c =
    let e = rw c.in-Ok-Itr.field-0-is at c.in-Ok-Itr.ensures in
    ap each_alone (sym c.in-Err-itr_alone.is ∙ c.itr_alone.ensures) ∙ itr_each_alone c.args.set ∙ ap (λ n. bounds_alone (bounds_of c.args.set n)) e

pub returns-in-Ok-check : goal.returns-in-Ok-check
returns-in-Ok-check c =
    rw (is_unknown c.args.set _ c.in-Err.ensures.1, sym c.check.ensures, c.in-Ok-check.is) (cc c.in-Err.ensures.0)

pub returns-in-Err-check : goal.returns-in-Err-check
returns-in-Err-check c = rw (is_unknown c.args.set _ c.in-Err.ensures.1, sym c.check.ensures, c.in-Err-check.is)
