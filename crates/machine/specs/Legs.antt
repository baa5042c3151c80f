-- Legs: from one release or completion to the next, every tick of a run does the same. Assumes nothing.
use Rattle.std.specs.Prelude.{ℕ, ◌-◌, min, List, Option, Some, None}
use Rattle.laws.specs.Words.{number_at}
use Rattle.machine.specs.declared.{state.State.State, pick.Best.Best, leg.Leg.Leg}

-- The leg from a state on, by its best ready job and the next release: until that, or until the job is complete where that comes first.
abbrev pub leg_of : List ℕ → State → Option Best → ℕ → Leg
leg_of times s None release = record { at = None; ticks = release - s.time }
leg_of times s (Some best) release = record { at = Some best.at; ticks = min (release - s.time) (number_at times best.at - number_at s.work best.at) }
