-- `line_length` answers the length of the line. Assumes nothing.
use Rattle.texts.proofs.Lines.{line_length_lem}
use lib.IntN.{pos}
use mathlib.Core.List.{map}
use native.Mathlib.Omega.{arith}
use Rattle.report.proofs.columns.line_length.Goals as goal

pub returns : goal.returns
returns c =
    let columns = c.columns_length.ensures in
    (omega (arith, columns.0, line_length_lem (map pos c.args.values.now)), omega (arith, columns.1))
