-- `run_through` meets its contract. The loop's invariant: the state of the run at this time is reached, and the events up to it are counted. Time goes on
-- in each turn, and there is a limit on it. Assumes nothing.
use Prim.Native.Nat.{◌-◌}
use lib.ListN.{length}
use Rattle.machine.proofs.Running.{Reached}
use Rattle.machine.proofs.Steps.{Counted}
use Rattle.machine.specs.Ticks.{last_time}
use Rattle.theory.proofs.Columns.{shown}
use Rattle.machine.proofs.timed.TimedJobs.run_through.Given as goal

abbrev pub invariant-loop-left : goal.invariant-loop-left
invariant-loop-left l =
    let times = l.self.times.now in
    let t = shown (length times) l.self.columns.now in
    Reached t times l.state.work l.state.completions l.left l.state.time l.release × Counted t times l.steps l.state.time

abbrev pub decreases-loop-left : goal.decreases-loop-left
decreases-loop-left l = last_time - l.state.time
