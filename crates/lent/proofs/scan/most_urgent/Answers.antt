-- `most_urgent` meets its contract. Assumes nothing.
use Prim.Native.Nat.{ℕ}
use mathlib.Core.Bool.{Bool}
use mathlib.Core.Path.{◌≡◌, refl, ap, ◌∙◌}
use native.Mathlib.Omega.{arith}
use lib.ListN.{length}
use Rattle.std.specs.Prelude.{Option}
use Rattle.machine.specs.declared.pick.Best.{Best}
use Rattle.machine.specs.Ticks.{best_up_to}
use Rattle.machine.proofs.Scanned.{scanned}
use Rattle.theory.specs.Table.{table_of}
use Rattle.lent.proofs.Scanning.{best_so_far}
use Rattle.lent.proofs.scan.most_urgent.Goals as goal

pub loop-i-init : goal.loop-i-init
unfolding scanned best_up_to
loop-i-init c = (omega arith, refl)

pub returns : goal.returns
returns c =
    let a = c.args in
    let all : c.loop-i.i ≡ length a.jobs.now = omega arith in
    ap (λ (f : Option Best × ℕ × ℕ × Bool × Option ℕ). f.0) c.loop-i.invariant.1
    ∙ best_so_far a.jobs.now a.times.now a.state c.loop-i.i
    ∙ ap (λ (n : ℕ). best_up_to (table_of a.jobs.now) a.times.now a.state n) all
