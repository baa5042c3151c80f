-- `bounds` answers `bounds_of`, algorithm by algorithm. Assumes nothing.
use Rattle.analysis.proofs.Algorithms.{is_ert, is_cja, is_itr, is_unknown, without_rounds}
use Rattle.analysis.specs.Answers.{bounds_of}
use borrow.Author.Rules.{rules}
use mathlib.Core.Path.{sym, ap, ◌∙◌}
use Rattle.analysis.proofs.bounds.bounds.Goals as goal

pub returns-in-Ok-Ert : goal.returns-in-Ok-Ert
returns-in-Ok-Ert c = c.ert.ensures ∙ is_ert c.args.set ∙ ap (bounds_of c.args.set) (rw c.in-Ok-Ert.field-0-is at c.in-Ok-Ert.ensures)

pub returns-in-Ok-Cja : goal.returns-in-Ok-Cja
returns-in-Ok-Cja c = c.cja.ensures ∙ is_cja c.args.set ∙ ap (bounds_of c.args.set) (rw c.in-Ok-Cja.field-0-is at c.in-Ok-Cja.ensures)

pub returns-in_err-bounds-in-Ok-Itr : goal.returns-in_err-bounds-in-Ok-Itr
returns-in_err-bounds-in-Ok-Itr c =
    let e = rw c.in-Ok-Itr.field-0-is at c.in-Ok-Itr.ensures in
    let refused = ap without_rounds (sym c.in_err-bounds-in-Ok-Itr.was ∙ c.itr.ensures) in
    rw (sym (refused ∙ is_itr c.args.set ∙ ap (bounds_of c.args.set) e)) (search rules)

pub returns-in_ok-bounds-in-Ok-Itr : goal.returns-in_ok-bounds-in-Ok-Itr
returns-in_ok-bounds-in-Ok-Itr c =
    let e = rw c.in-Ok-Itr.field-0-is at c.in-Ok-Itr.ensures in
    ap without_rounds (sym c.in_ok-bounds-in-Ok-Itr.was ∙ c.itr.ensures) ∙ is_itr c.args.set ∙ ap (bounds_of c.args.set) e

pub returns-in_err-check-in-Err : goal.returns-in_err-check-in-Err
returns-in_err-check-in-Err c = rw (is_unknown c.args.set _ c.in-Err.ensures.1, sym c.check.ensures, c.in_err-check-in-Err.was) (search rules)

pub returns-in_ok-check-in-Err : goal.returns-in_ok-check-in-Err
returns-in_ok-check-in-Err c =
    rw (is_unknown c.args.set _ c.in-Err.ensures.1, sym c.check.ensures, c.in_ok-check-in-Err.was) (cc c.in-Err.ensures.0)
