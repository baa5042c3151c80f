-- `is_outranking` meets its contract. Assumes nothing.
use Rattle.machine.proofs.Order.{outranks_apart, outranks_equal, outranks-last}
use mathlib.Core.Path.{sym}
use Rattle.machine.proofs.rank.Rank.is_outranking.Goals as goal

pub returns-then-self-other : goal.returns-then-self-other
returns-then-self-other c = sym (outranks_apart _ _ c.if-self-other.true)

pub returns-then-self-other-2 : goal.returns-then-self-other-2
returns-then-self-other-2 c = sym (outranks_equal _ _ c.if-self-other.false c.if-self-other-2.true)

pub returns : goal.returns
returns c = sym (outranks-last _ _ c.if-self-other.false c.if-self-other-2.false)
