-- `slacks` answers `slacks_of`. Assumes nothing.
use Rattle.analysis.specs.Answers.{slacks_of}
use Rattle.completion.proofs.Passing.{itr_answered, itr_refused}
use Rattle.completion.specs.declared.answer.ItrAlone.{ItrAlone}
use borrow.Author.Rules.{rules}
use mathlib.Core.Path.{sym, ap, ◌∙◌}
use Rattle.analysis.proofs.slack.slacks.Goals as goal

pub returns-in_err-answer : goal.returns-in_err-answer
unfolding slacks_of
returns-in_err-answer c = rw (itr_refused c.args.set _ (sym c.in_err-answer.was ∙ c.itr_alone.ensures)) (search rules)

pub slacks_by-requires : goal.slacks_by-requires
slacks_by-requires c =
    let accepted = itr_answered c.args.set _ (sym c.in_ok-answer.was ∙ c.itr_alone.ensures) in
    record { set_value = accepted.0; bounds_value = ap (λ (a : ItrAlone). a.bounds) accepted.1 }

pub returns : goal.returns
unfolding slacks_of
returns c = rw ((itr_answered c.args.set _ (sym c.in_ok-answer.was ∙ c.itr_alone.ensures)).0, c.slacks_by.ensures)
