-- `check_state` meets its contract. Assumes nothing.
use Rattle.machine.proofs.Ticking.{seen_shown, state-late, state_impossible, state_passes}
use lib.ListN.{length}
use mathlib.Core.Path.{refl, sym, ◌∙◌}
use Rattle.machine.proofs.timed.TimedJobs.check_state.Goals as goal

pub returns-then-state-gt-LAST_TIME : goal.returns-then-state-gt-LAST_TIME
returns-then-state-gt-LAST_TIME c = sym (state-late _ _ _ c.if-state-gt-LAST_TIME.true)

pub returns-then-not-are_possible : goal.returns-then-not-are_possible
returns-then-not-are_possible c =
    let not-all = sym c.are_possible.ensures ∙ c.if-not-are_possible.true in
    sym (state_impossible c.args.self.columns.now (seen_shown (length c.args.self.times.now) c.args.self.columns.now) refl _ _ c.if-state-gt-LAST_TIME.false not-all)

pub returns : goal.returns
returns c =
    let all = sym c.are_possible.ensures ∙ c.if-not-are_possible.false in
    sym (state_passes c.args.self.columns.now (seen_shown (length c.args.self.times.now) c.args.self.columns.now) refl _ _ c.if-state-gt-LAST_TIME.false all)
