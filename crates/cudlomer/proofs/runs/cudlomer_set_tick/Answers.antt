-- `cudlomer_set_tick` answers `tick_code`, and leaves `tick_into`. Assumes nothing.
use Rattle.cudlomer.proofs.Negation.{handed_on}
use Rattle.cudlomer.proofs.Ticking.{tick_short, tick_refused, tick_done, ran_small}
use Rattle.jobs.specs.Jobs.{jobs_of}
use Rattle.machine.specs.Ticks.{step_of}
use mathlib.Core.Path.{ap, ◌∙◌}
use native.Mathlib.Omega.{arith}
use Rattle.cudlomer.proofs.runs.cudlomer_set_tick.Goals as goal

pub returns-then-state-lt-STATE_SIZE : goal.returns-then-state-lt-STATE_SIZE
returns-then-state-lt-STATE_SIZE c =
    let short = tick_short _ _ _ c.if-state-lt-STATE_SIZE.true in
    rw (← c.held_set-set.ensures) (handed_on (record { sfits = c.short_state.type_inv }) c.short_state.ensures ∙ short.0, short.1)

pub ticked_code-code-requires : goal.ticked_code-code-requires
ticked_code-code-requires c = ran_small _ _ _ _ c.tick_kept-stepped.ensures

pub returns-then-code-lt0 : goal.returns-then-code-lt0
returns-then-code-lt0 c =
    let times = c.args.times.now in
    let stepped = c.tick_kept-stepped.ensures ∙ ap (step_of (jobs_of c.held_set-set.result) times) c.state_in.ensures in
    let code = handed_on (record { sfits = c.ticked_code-code.type_inv }) c.ticked_code-code.ensures in
    let refused = tick_refused _ _ _ _ (omega (arith, c.if-state-lt-STATE_SIZE.false)) stepped (rw code at c.if-code-lt0.true) in
    rw (← c.held_set-set.ensures) (code ∙ refused.0, refused.1)

pub returns : goal.returns
returns c =
    let times = c.args.times.now in
    let stepped = c.tick_kept-stepped.ensures ∙ ap (step_of (jobs_of c.held_set-set.result) times) c.state_in.ensures in
    let code = handed_on (record { sfits = c.ticked_code-code.type_inv }) c.ticked_code-code.ensures in
    let done = tick_done _ _ _ _ _ (omega (arith, c.if-state-lt-STATE_SIZE.false)) stepped c.put_state.ensures.1 in
    rw (← c.held_set-set.ensures) (code ∙ done.0, done.1)
