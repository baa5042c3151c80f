-- `ready_to_print` answers `print_length` and leaves `print_left`. Assumes nothing.
use Rattle.texts.proofs.RefusedText.{refused_short}
use borrow.Author.Rules.{rules}
use Rattle.texts.proofs.refused.ready_to_print.Goals as goal

pub overflow_cast-result : goal.overflow_cast-result
overflow_cast-result c =
    let short = refused_short _ _ c.write_refused.ensures.0 in
    let h = short in search (rules, h)

pub returns-in-Err : goal.returns-in-Err
returns-in-Err c = rw c.in-Err.is c.write_refused.ensures
