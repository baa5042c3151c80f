-- `put_delays` writes what delays the jobs, or refuses with 9. Assumes nothing.
use Rattle.laws.specs.Words.{patched}
use Rattle.numbers.proofs.Blocks.{owned_full, delays_fit, same-delays, delays_size}
use Rattle.numbers.proofs.Rooms.{put_short, put_fits}
use borrow.Author.Rules.{rules}
use mathlib.Core.Path.{◌∙◌, ap}
use native.Mathlib.Omega.{arith}
use Rattle.numbers.proofs.delays.put_delays.Goals as goal

pub overflow_mul-jobs : goal.overflow_mul-jobs
overflow_mul-jobs c =
    let h = delays_fit c.min-blocks.result c.min-jobs.result (omega (arith, c.min-jobs.ensures)) (omega (arith, c.min-blocks.ensures)) in
    search (rules, h)

pub returns-then-out-jobs : goal.returns-then-out-jobs
returns-then-out-jobs c =
    let delays = c.args.delays in
    let owned = c.well_formed.0 in
    let size = delays_size _ delays _ (owned_full delays owned.0 owned.1.1) owned.1.0.1 c.min-jobs.ensures c.min-blocks.ensures in
    let short = put_short _ _ (omega (arith, size, c.if-out-jobs.true)) in
    record { value = short.0; out_after = short.1 }

pub returns : goal.returns
returns c =
    let delays = c.args.delays in
    let owned = c.well_formed.0 in
    let full = owned_full delays owned.0 owned.1.1 in
    let size = delays_size _ delays _ full owned.1.0.1 c.min-jobs.ensures c.min-blocks.ensures in
    let same = same-delays _ delays _ full owned.1.0.1 c.min-jobs.ensures c.min-blocks.ensures in
    let fits = put_fits _ _ _ (omega (arith, size, c.if-out-jobs.false)) (c.put_each.ensures ∙ ap (patched c.args.out.now 0) same) in
    record { value = fits.0; out_after = fits.1 }
