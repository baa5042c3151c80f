-- `rows_fit` meets its contract. The loop's invariant: the answer is that of the rows still to come, of which how many there are falls. Assumes nothing.
use Prim.Native.Nat.{◌≤◌, ◌<◌}
use Rattle.laws.proofs.Lists.{mapped_length}
use Rattle.legality.proofs.Rows.{order_rising}
use Rattle.recorders.proofs.Priorities.{rest_rising, rest_not, rest-next, rest_none}
use Rattle.recorders.proofs.Tallies.{length-rows, row_at}
use Rattle.recording.specs.Reading.{max_rows, rows_of}
use Rattle.recording.specs.Rows.{no_row}
use borrow.Author.Rules.{rules}
use lib.ListN.{length, get_or}
use mathlib.Core.Path.{◌≡◌, refl, sym, ◌∙◌}
use native.Mathlib.Omega.{arith}
use Rattle.recorders.proofs.priority.rows_fit.Goals as goal

pub loop-n-init : goal.loop-n-init
loop-n-init c = (omega arith, order_rising (rows_of c.args.recording) c.requires.1.order, refl)

pub row_fits-fits-requires : goal.row_fits-fits-requires
row_fits-fits-requires c =
    let rows = rows_of c.args.recording in
    let full : length c.args.recording.rows ≡ max_rows = search (rules, mapped_length, c.well_formed) in
    let here : c.loop-n.n < length rows = omega (arith, length-rows c.args.recording full c.requires.1.few, c.loop-n-test.true) in
    let row = get_or c.args.recording.rows c.loop-n.n no_row in
    let is_row = row_at c.args.recording c.loop-n.n c.loop-n-test.true in
    let order = rest_rising c.args.waiting.now c.args.count rows _ _ here row is_row c.loop-n.invariant.1 in
    let inside = c.requires.1.inside c.loop-n.n c.loop-n-test.true in
    (c.requires.0, record { place = omega (arith, inside, c.requires.0); after = order.0; lasts = order.1 })

pub returns-then-not-fits : goal.returns-then-not-fits
returns-then-not-fits c =
    let rows = rows_of c.args.recording in
    let full : length c.args.recording.rows ≡ max_rows = search (rules, mapped_length, c.well_formed) in
    let here : c.loop-n.n < length rows = omega (arith, length-rows c.args.recording full c.requires.1.few, c.loop-n-test.true) in
    let is_row = row_at c.args.recording c.loop-n.n c.loop-n-test.true in
    sym (c.loop-n.invariant.2 ∙ rest_not _ _ rows _ _ here _ is_row (sym c.row_fits-fits.ensures ∙ c.if-not-fits.true))

pub loop-n-preserved : goal.loop-n-preserved
loop-n-preserved c =
    let rows = rows_of c.args.recording in
    let full : length c.args.recording.rows ≡ max_rows = search (rules, mapped_length, c.well_formed) in
    let here : c.loop-n.n < length rows = omega (arith, length-rows c.args.recording full c.requires.1.few, c.loop-n-test.true) in
    let is_row = row_at c.args.recording c.loop-n.n c.loop-n-test.true in
    let row = get_or c.args.recording.rows c.loop-n.n no_row in
    let order = rest_rising c.args.waiting.now c.args.count rows _ _ here row is_row c.loop-n.invariant.1 in
    let next = rest-next _ _ rows _ _ here _ is_row (sym c.row_fits-fits.ensures ∙ c.if-not-fits.false) in
    (omega (arith, c.loop-n-test.true), order.2, c.loop-n.invariant.2 ∙ next)

pub returns : goal.returns
returns c =
    let full : length c.args.recording.rows ≡ max_rows = search (rules, mapped_length, c.well_formed) in
    let all : length (rows_of c.args.recording) ≤ c.loop-n.n = omega (arith, length-rows c.args.recording full c.requires.1.few, c.loop-n-test.false) in
    sym (c.loop-n.invariant.2 ∙ rest_none _ _ (rows_of c.args.recording) _ _ all)
