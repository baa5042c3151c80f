-- `put_dump` leaves as much of the dump as fits. Assumes nothing.
use Prim.Native.Nat.{◌≤◌}
use Rattle.dumps.proofs.LineTexts.{top_text, middle_text, end_text}
use Rattle.jobs.proofs.Sets.{length_jobs}
use Rattle.jobs.specs.Jobs.{jobs_of}
use Rattle.jobs.specs.Limits.{max_jobs}
use Rattle.jobs.specs.declared.set.JobSet.{JobSet}
use Rattle.laws.proofs.Clipped.{put-start, put_then, put-counted}
use Rattle.waveform.proofs.Dumping.{whole_text, parts_fit}
use lib.ListN.{length}
use native.Mathlib.Omega.{arith}
use Rattle.waveform.proofs.dump.put_dump.Goals as goal

few : (set : JobSet) → length (jobs_of set) ≤ max_jobs → set.count ≤ max_jobs
few set h = omega (arith, h, length_jobs set)

pub first_place-first-requires : goal.first_place-first-requires
first_place-first-requires c = (few c.args.set c.requires.few, c.requires.room)

pub put_wires-start-requires : goal.put_wires-start-requires
put_wires-start-requires c =
    let first = c.first_place-first in
    let fit = parts_fit c.args.set c.args.numbers.now c.args.entries first.result c.requires first.ensures in
    (few c.args.set c.requires.few, omega (arith, fit, c.put_bytes-wires.ensures.0))

-- the place after the definitions and the first lines of the values, from where on the other parts have room
pub overflow_add-values : goal.overflow_add-values
overflow_add-values c =
    let first = c.first_place-first in
    let fit = parts_fit c.args.set c.args.numbers.now c.args.entries first.result c.requires first.ensures in
    omega (arith, fit, c.put_bytes-wires.ensures.0, c.put_wires-start.ensures.place, c.put_bytes.ensures.0)

pub put_values-end-requires : goal.put_values-end-requires
put_values-end-requires c =
    let first = c.first_place-first in
    let fit = parts_fit c.args.set c.args.numbers.now c.args.entries first.result c.requires first.ensures in
    (few c.args.set c.requires.few, omega (arith, fit, c.put_bytes-wires.ensures.0, c.put_wires-start.ensures.place, c.put_bytes.ensures.0))

-- the place after all values
pub overflow_add-changes : goal.overflow_add-changes
overflow_add-changes c =
    let first = c.first_place-first in
    let fit = parts_fit c.args.set c.args.numbers.now c.args.entries first.result c.requires first.ensures in
    omega (
      arith,
      fit,
      c.put_bytes-wires.ensures.0,
      c.put_wires-start.ensures.place,
      c.put_bytes.ensures.0,
      c.put_values-end.ensures.place,
      c.put_bytes-2.ensures.0,
    )

pub put_changes-requires : goal.put_changes-requires
put_changes-requires c =
    let first = c.first_place-first in
    let fit = parts_fit c.args.set c.args.numbers.now c.args.entries first.result c.requires first.ensures in
    record {
      count_le_max_jobs = (few c.args.set c.requires.few, c.requires.room);
      entries_bound =
          omega (
            arith,
            fit,
            c.put_bytes-wires.ensures.0,
            c.put_wires-start.ensures.place,
            c.put_bytes.ensures.0,
            c.put_values-end.ensures.place,
            c.put_bytes-2.ensures.0,
          );
    }

pub returns : goal.returns
returns c =
    let set = c.args.set in
    let numbers = c.args.numbers.now in
    let first = c.first_place-first in
    let entries = c.args.entries in
    let top = put-start top_text c.put_bytes-wires.ensures in
    let wires = put_then top c.put_wires-start.ensures in
    let middle = put-counted middle_text wires c.put_bytes.ensures in
    let values = put_then middle c.put_values-end.ensures in
    let end = put-counted end_text values c.put_bytes-2.ensures in
    rw (whole_text set numbers entries first.result c.requires first.ensures)
    (put_then end c.put_changes.ensures)
