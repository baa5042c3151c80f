-- `write_whole` writes a text whole or leaves the buffer as it was. Assumes nothing.
use Prim.Native.Nat.{◌≤◌, ◌<◌}
use lib.ListN.{length}
use native.Mathlib.Omega.{arith}
use Rattle.texts.proofs.TextAnswers.{answer_short, answer_fits}
use Rattle.texts.proofs.Trying.{tried_short, tried_fits}
use Rattle.texts.proofs.whole.write_whole.Goals as goal

pub returns-then-out-length : goal.returns-then-out-length
returns-then-out-length g c =
    let out = c.args.out.now in
    let text = g.T.Text.bytes c.args.text in
    let tried = c.put-length.ensures in
    let short : length out < length text = omega (arith, tried.0, c.if-out-length.true) in
    (answer_short text out short, tried_short text out _ tried.1 short)

pub returns : goal.returns
returns g c =
    let out = c.args.out.now in
    let text = g.T.Text.bytes c.args.text in
    let tried = c.put-length.ensures in
    let put = c.put.ensures in
    let fits : length text ≤ length out = omega (arith, tried.0, c.if-out-length.false) in
    (answer_fits text out _ fits tried.0, tried_fits text out _ tried.1 _ fits put.1)
