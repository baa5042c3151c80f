-- `write_entry` meets its contract. Assumes nothing.
use Rattle.machine.proofs.Tracing.{four_stored}
use borrow.Author.Rules.{rules}
use lib.ListN.{length-set}
use Rattle.machine.proofs.trace.write_entry.Goals as goal

pub bounds-out-k-2 : goal.bounds-out-k-2
bounds-out-k-2 c = simp length-set (search rules)

pub bounds-out-k-3 : goal.bounds-out-k-3
bounds-out-k-3 c = simp length-set (search rules)

pub bounds-out-k-4 : goal.bounds-out-k-4
bounds-out-k-4 c = simp length-set (search rules)

pub returns : goal.returns
returns c = four_stored _ _ _ _ _ _ c.requires
