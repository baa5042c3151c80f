-- `read_fields` answers the row of the first line. The loop's invariant: the fields so far are read, and what follows them decides. Assumes nothing.
use Rattle.table.proofs.Rows.{FieldsRead}
use Rattle.table.proofs.line.read_fields.Given as goal

abbrev pub invariant-loop-k : goal.invariant-loop-k
invariant-loop-k l = FieldsRead l.columns l.rest l.values l.at l.k
