-- `named` answers `block_named` of a block that has jobs. Assumes nothing.
use Rattle.completion.proofs.Naming.{named_some}
use Rattle.laws.specs.Words.{number_at}
use mathlib.Core.Path.{sym}
use Rattle.completion.proofs.taken.named.Goals as goal

pub returns : goal.returns
returns c =
    let s = c.before.before in
    sym (named_some (number_at s.args.numbers.now) s.args.first s.args.end s.requires.0)
