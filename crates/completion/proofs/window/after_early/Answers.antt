-- `after_early` answers up to where the jobs are released in time. The loop's invariant: those from place i on are not. Assumes nothing.
use Prim.Native.Nat.{ℕ, suc, ◌-◌}
use Rattle.theory.proofs.ChainWindow.{Released, releases_in, released_here}
use mathlib.Core.Path.{◌≡◌, subst}
use native.Mathlib.Numerals.{add-one}
use native.Mathlib.Omega.{arith}
use Rattle.completion.proofs.window.after_early.Goals as goal

pub returns-then-earliest-to : goal.returns-then-earliest-to
returns-then-earliest-to c =
    let s = c.before.before.before.before in
    let at = c.loop-i in
    let taken = c.loop-i-test.true in
    let here : suc (at.i - 1) ≡ at.i = omega (arith, taken) in
    rw (add-one, here) (
      at.invariant.0,
      at.invariant.1,
      subst (λ (z : ℕ). Released (releases_in s.args.table.now.columns) s.args.to s.args.first z) here
          (released_here (releases_in s.args.table.now.columns) s.args.to s.args.first s.args.end s.requires.2 (at.i - 1) (omega (arith, taken, at.invariant.1)) (omega (arith, c.if-earliest-to.true, c.earliest.ensures))),
      at.invariant.2,
    )
