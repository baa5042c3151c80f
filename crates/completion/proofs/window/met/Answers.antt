-- `met` turns the window and takes in the jobs before it that overlap. Assumes nothing.
use Prim.Native.Nat.{min}
use Rattle.completion.proofs.Turning.{WindowIn, turned-end, turned_swept}
use Rattle.theory.proofs.ChainWindow.{releases_in}
use mathlib.Core.Path.{◌≡◌, ◌∙◌}
use Rattle.completion.proofs.window.met.Goals.{After-turned-ready}
use Rattle.completion.proofs.window.met.Goals as goal

-- the turned window: it is swept for the target with the job at k, and ends where it did
swept : (c : After-turned-ready) → let s = c.before.before in WindowIn s.args.table.now.columns s.args.bound.now (min s.args.low c.urgency-urgency.result) (releases_in s.args.table.now.columns s.args.k) s.args.first c.turned-ready.result
swept c =
    let s = c.before.before in
    turned_swept s.args.table.now.columns s.args.bound.now s.args.low c.urgency-urgency.result (releases_in s.args.table.now.columns s.args.k) s.args.first s.args.window c.turned-ready.result s.requires.1 c.turned-ready.ensures

ends : (c : After-turned-ready) → c.turned-ready.result.hi ≡ c.args.window.hi
ends c =
    let s = c.before.before in
    turned-end s.args.table.now.columns s.args.bound.now s.args.low c.urgency-urgency.result (releases_in s.args.table.now.columns s.args.k) s.args.first s.args.window c.turned-ready.result s.requires.1 c.turned-ready.ensures

pub grown-requires : goal.grown-requires
grown-requires c =
    let s = c.before.before.before.before in
    (rw (c.earliest.ensures, c.min.ensures) (swept c.before.before), rw (ends c.before.before) s.requires.2)

pub returns : goal.returns
returns c =
    let e = ends c.before.before.before in
    let whole = rw (e, c.earliest.ensures, c.min.ensures, c.urgency-urgency.ensures) at c.grown.ensures.0 in
    (whole, c.grown.ensures.1 ∙ e)
