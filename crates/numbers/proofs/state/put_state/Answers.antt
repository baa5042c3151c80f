-- `put_state` writes the time, the work and the completion of each place, or refuses with 9. Assumes nothing.
use Rattle.jobs.specs.Limits.{max_jobs}
use Rattle.numbers.proofs.Rooms.{state_short, state_fits}
use borrow.Author.Rules.{rules}
use lib.ListN.{length}
use mathlib.Core.Path.{◌≡◌}
use native.Mathlib.Omega.{arith}
use Rattle.numbers.proofs.state.put_state.Goals as goal

pub returns-then-out-lt-STATE_SIZE : goal.returns-then-out-lt-STATE_SIZE
returns-then-out-lt-STATE_SIZE c =
    let s = c.args.state in
    let full : length s.work ≡ max_jobs = search rules in
    let whole : length s.completions ≡ max_jobs = search rules in
    state_short s c.args.out.now full whole c.if-out-lt-STATE_SIZE.true

pub put_at-requires-2 : goal.put_at-requires-2
put_at-requires-2 c =
    let full : length c.args.state.work ≡ max_jobs = search rules in
    omega (arith, c.if-out-lt-STATE_SIZE.false)

pub put_at-requires-3 : goal.put_at-requires-3
put_at-requires-3 c =
    let full : length c.args.state.completions ≡ max_jobs = search rules in
    omega (arith, c.if-out-lt-STATE_SIZE.false)

pub returns : goal.returns
returns c =
    let s = c.args.state in
    let full : length s.work ≡ max_jobs = search rules in
    let whole : length s.completions ≡ max_jobs = search rules in
    state_fits s c.args.out.now full whole (omega (arith, c.if-out-lt-STATE_SIZE.false)) c.put_at.ensures.1 c.put_at-2.ensures.1 c.put_at-3.ensures.1
