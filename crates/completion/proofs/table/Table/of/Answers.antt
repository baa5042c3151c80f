-- `of` answers the table of an accepted set, within its limits. Assumes nothing.
use Rattle.completion.proofs.Lent.{lent_fit}
use Rattle.theory.proofs.Columns.{lent}
use Rattle.completion.proofs.table.Table.of.Goals as goal

pub invariant_of-result : goal.invariant_of-result
invariant_of-result c = record { fit = lent_fit c.args.set c.requires (lent c.args.set.count c.columns_of.result) c.columns_of.ensures.0; ended = c.columns_of.ensures.1 }
