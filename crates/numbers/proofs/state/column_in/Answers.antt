-- `column_in` answers `column_in`. The loop's invariant: the first n numbers of the column are read. Assumes nothing.
use Rattle.numbers.proofs.States.{column_none, column-next, column_all}
use native.Mathlib.Omega.{arith}
use Rattle.numbers.proofs.state.column_in.Goals as goal

pub loop-n-init : goal.loop-n-init
loop-n-init c = column_none c.args.numbers.now c.args.from

pub loop-n-preserved : goal.loop-n-preserved
loop-n-preserved c =
    column-next c.args.numbers.now c.args.from _ _ _ c.loop-n.invariant c.loop-n-test.true c.number_at.ensures

pub returns : goal.returns
returns c =
    column_all c.args.numbers.now c.args.from _ _ c.loop-n.invariant (omega (arith, c.loop-n-test.false))
