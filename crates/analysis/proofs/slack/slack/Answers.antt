-- `slack` answers the theory's, on both sides of zero. Assumes nothing.
use Rattle.analysis.proofs.Differences.{words_fit, words_differ}
use native.Mathlib.Omega.{arith}
use Rattle.analysis.proofs.slack.slack.Goals as goal

pub overflow_sub-result : goal.overflow_sub-result
overflow_sub-result c = words_fit c.args.deadline c.args.bound (omega (arith, c.requires.0)) c.requires.1

pub returns : goal.returns
returns c = words_differ c.args.deadline c.args.bound (omega (arith, c.requires.0)) c.requires.1
