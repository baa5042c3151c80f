-- What a putter puts by one text is that text, whole or not at all. Assumes nothing.
use Prim.Native.Nat.{◌≤◌, ◌<◌}
use lib.ListN.{length}
use native.Mathlib.Omega.{arith}
use Rattle.texts.proofs.TextAnswers.{answer_short, answer_fits}
use Rattle.texts.proofs.Trying.{tried_short, tried_fits}
use Rattle.texts.proofs.putter.write_whole_by.Goals as goal

pub returns-then-out-length-clause-whole : goal.returns-then-out-length-clause-whole
returns-then-out-length-clause-whole g c = λ text puts.
    let out = c.args.out.now in
    let tried = puts _ _ _ c.put-length.ensures in
    let short : length out < length text = omega (arith, tried.0, c.if-out-length.true) in
    (answer_short text out short, tried_short text out _ tried.1 short)

pub returns-clause-whole : goal.returns-clause-whole
returns-clause-whole g c = λ text puts.
    let out = c.args.out.now in
    let tried = puts _ _ _ c.put-length.ensures in
    let put = puts _ _ _ c.put.ensures in
    let fits : length text ≤ length out = omega (arith, tried.0, c.if-out-length.false) in
    (answer_fits text out _ fits tried.0, tried_fits text out _ tried.1 _ fits put.1)
