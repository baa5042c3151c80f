-- The length of a comparison's text is a word, the tick of the comparison being one. Assumes nothing.
use Rattle.recordings.proofs.Fits.{compared_fits}
use borrow.Author.Rules.{rules}
use native.Mathlib.Omega.{arith}
use Rattle.recordings.proofs.text.ComparedTextText.put.Goals as goal

pub overflow_cast-result : goal.overflow_cast-result
overflow_cast-result c = let h = compared_fits c.args.self.0 (search (rules, c.well_formed)) in omega (arith, h, c.put_text.ensures.place)
