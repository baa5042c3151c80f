-- `cudlomer_set_blocks` answers `blocks_code`, and leaves `blocks_into`. Assumes nothing.
use Rattle.cudlomer.proofs.Blocking.{blocks_refused, blocks_chains, blocks_size, blocks_done}
use Rattle.cudlomer.proofs.Negation.{handed_on}
use borrow.Author.Rules.{rules}
use mathlib.Core.Path.{sym, ◌∙◌}
use native.Mathlib.Omega.{arith}
use Rattle.cudlomer.proofs.sets.cudlomer_set_blocks.Goals as goal

pub returns-in-Err : goal.returns-in-Err
returns-in-Err c =
    let held = c.held_set-set.ensures in
    let refused = blocks_refused _ _ _ _ (sym c.in-Err.is ∙ c.bounds.ensures) in
    rw (← held) (handed_on (record { sfits = c.negated.type_inv }) c.negated.ensures ∙ refused.0, refused.1)

pub overflow_mul-chains : goal.overflow_mul-chains
overflow_mul-chains c =
    let h = blocks_chains _ _ _ (sym c.in-Ok.is ∙ c.bounds.ensures) _ c.last_of-last.ensures in
    search (rules, h)

pub overflow_add-chains : goal.overflow_add-chains
overflow_add-chains c =
    let h = blocks_chains _ _ _ (sym c.in-Ok.is ∙ c.bounds.ensures) _ c.last_of-last.ensures in
    search (rules, h)

pub overflow_mul-count : goal.overflow_mul-count
overflow_mul-count c =
    let h = blocks_size _ _ _ (sym c.in-Ok.is ∙ c.bounds.ensures) _ c.last_of-last.ensures in
    search (rules, h)

pub checked_code-requires : goal.checked_code-requires
checked_code-requires c =
    let h = blocks_size _ _ _ (sym c.in-Ok.is ∙ c.bounds.ensures) _ c.last_of-last.ensures in
    omega (arith, h)

pub returns-in-Ok : goal.returns-in-Ok
returns-in-Ok c =
    let held = c.held_set-set.ensures in
    let put = c.put_delays.ensures in
    let done = blocks_done _ _ _ (sym c.in-Ok.is ∙ c.bounds.ensures) _ c.last_of-last.ensures _ _ _ put.value put.out_after in
    rw (← held) (handed_on (record { sfits = c.checked_code.type_inv }) c.checked_code.ensures ∙ done.0, done.1)
