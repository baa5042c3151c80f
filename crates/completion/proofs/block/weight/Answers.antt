-- `weight` answers `weight_of`. Assumes nothing.
use Rattle.theory.proofs.Weights.{weight_of}
use lib.Dec.{ltb}
use mathlib.Core.Bool.{Bool, true, false, ◌&&◌}
use mathlib.Core.Path.{◌≡◌}
use Rattle.completion.proofs.block.weight.Goals.{Start}
use Rattle.completion.proofs.block.weight.Goals as goal

-- the spans overlap
abbrev meet : Start → Bool
meet s = ltb s.args.from s.args.bound && ltb s.args.release s.args.to

pub returns-then-from-bound : goal.returns-then-from-bound
unfolding weight_of
returns-then-from-bound c = let overlap : meet c.before ≡ true = c.if-from-bound.true in simp overlap

pub returns : goal.returns
unfolding weight_of
returns c = let apart : meet c.before ≡ false = c.if-from-bound.false in simp apart
