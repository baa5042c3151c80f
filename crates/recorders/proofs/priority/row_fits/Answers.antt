-- `row_fits` meets its contract. The loop's invariant: the row holds up none of the first v jobs. Assumes nothing.
use Rattle.laws.proofs.Every.{every_none, every_next, every_not}
use Rattle.legality.proofs.Judging.{held_up}
use mathlib.Core.Bool.{not}
use mathlib.Core.Path.{◌≡◌, sym, ap, ◌∙◌}
use native.Mathlib.Omega.{arith}
use Rattle.recorders.proofs.priority.row_fits.Goals as goal

pub loop-v-init : goal.loop-v-init
loop-v-init c = let a = c.args in (omega arith, every_none (λ v. not (held_up a.waiting.now a.gap a.row v)))

pub returns-then-is_held_up : goal.returns-then-is_held_up
returns-then-is_held_up c = sym (every_not _ _ _ c.loop-v-test.true (ap not (sym c.is_held_up.ensures ∙ c.if-is_held_up.true)))

pub loop-v-preserved : goal.loop-v-preserved
loop-v-preserved c = (omega arith, every_next _ _ c.loop-v.invariant.1 (ap not (sym c.is_held_up.ensures ∙ c.if-is_held_up.false)))

pub returns : goal.returns
returns c =
    let all : c.loop-v.v ≡ c.args.count = omega arith in
    sym (rw all at c.loop-v.invariant.1)
