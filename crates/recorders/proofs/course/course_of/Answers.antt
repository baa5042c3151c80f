-- `course_of` meets its contract. The loop's invariant: the columns show the first n rows. Assumes nothing.
use Prim.Native.Nat.{ℕ, ◌≤◌, ◌<◌}
use Rattle.jobs.specs.Limits.{max_jobs}
use Rattle.laws.proofs.Lists.{mapped_length}
use Rattle.legality.proofs.Judging.{course_of}
use Rattle.legality.proofs.Rows.{order_rising}
use Rattle.legality.specs.Procedure.{total, begin}
use Rattle.recorders.proofs.Tallies.{tabulate_at, course_none, last_taken, total_fits, course-next, length-rows, row_at}
use Rattle.recording.specs.Reading.{max_rows, rows_of}
use Rattle.recording.specs.Rows.{no_row}
use Rattle.theory.proofs.Columns.{figure}
use borrow.Author.Rules.{rules}
use lib.Dec.{eqb}
use lib.ListN.{length, get_or, take}
use lib.Seq.{take_all}
use mathlib.Core.Bool.{cond}
use mathlib.Core.List.{List}
use mathlib.Core.Path.{◌≡◌, ap, ◌∙◌}
use native.Mathlib.Omega.{arith}
use Rattle.recorders.proofs.course.course_of.Goals as goal

pub loop-n-init : goal.loop-n-init
loop-n-init c = (omega arith, course_none)

pub figure-total-requires : goal.figure-total-requires
figure-total-requires c =
    let inside = c.requires.inside c.loop-n.n c.loop-n-test.true in
    search (rules, inside)

pub figure-begin-requires : goal.figure-begin-requires
figure-begin-requires c =
    let inside = c.requires.inside c.loop-n.n c.loop-n-test.true in
    search (rules, inside)

pub overflow_sub-course : goal.overflow_sub-course
overflow_sub-course c =
    let rows = rows_of c.args.recording in
    let row = get_or c.args.recording.rows c.loop-n.n no_row in
    let rising = order_rising rows c.requires.order in
    let here : c.loop-n.n < length rows = omega (arith, length-rows c.args.recording (search (rules, mapped_length, c.well_formed)) c.requires.few, c.loop-n-test.true) in
    let is_row = row_at c.args.recording c.loop-n.n c.loop-n-test.true in
    let last = last_taken rows rising c.loop-n.n here row is_row in
    search (rules, last.lasts)

pub overflow_add-course : goal.overflow_add-course
overflow_add-course c =
    let rows = rows_of c.args.recording in
    let row = get_or c.args.recording.rows c.loop-n.n no_row in
    let rising = order_rising rows c.requires.order in
    let here : c.loop-n.n < length rows = omega (arith, length-rows c.args.recording (search (rules, mapped_length, c.well_formed)) c.requires.few, c.loop-n-test.true) in
    let is_row = row_at c.args.recording c.loop-n.n c.loop-n-test.true in
    let fits = total_fits rows rising c.loop-n.n here row is_row row.at in
    let inside = c.requires.inside c.loop-n.n c.loop-n-test.true in
    omega (arith, fits, (c.figure-total.ensures ∙ ap (λ (q : List (List ℕ)). figure q 0 row.at) c.loop-n.invariant.1 ∙ tabulate_at max_jobs (total (take c.loop-n.n rows)) row.at inside))

pub offset_bounds-course-at : goal.offset_bounds-course-at
offset_bounds-course-at c =
    let inside = c.requires.inside c.loop-n.n c.loop-n-test.true in
    search (rules, inside)

pub bounds-course-at : goal.bounds-course-at
bounds-course-at c =
    let inside = c.requires.inside c.loop-n.n c.loop-n-test.true in
    search (rules, inside)

pub offset_bounds-course-at-in-loop-n : goal.offset_bounds-course-at-in-loop-n
offset_bounds-course-at-in-loop-n c =
    let inside = c.requires.inside c.loop-n.n c.loop-n-test.true in
    search (rules, inside)

pub bounds-course-at-in-loop-n : goal.bounds-course-at-in-loop-n
bounds-course-at-in-loop-n c =
    let inside = c.requires.inside c.loop-n.n c.loop-n-test.true in
    search (rules, inside)

pub offset_bounds-course-at-in-loop-n-2 : goal.offset_bounds-course-at-in-loop-n-2
offset_bounds-course-at-in-loop-n-2 c =
    let inside = c.requires.inside c.loop-n.n c.loop-n-test.true in
    search (rules, inside)

pub bounds-course-at-in-loop-n-2 : goal.bounds-course-at-in-loop-n-2
bounds-course-at-in-loop-n-2 c =
    let inside = c.requires.inside c.loop-n.n c.loop-n-test.true in
    search (rules, inside)

pub loop-n-preserved : goal.loop-n-preserved
loop-n-preserved c =
    let rows = rows_of c.args.recording in
    let row = get_or c.args.recording.rows c.loop-n.n no_row in
    let rising = order_rising rows c.requires.order in
    let here : c.loop-n.n < length rows = omega (arith, length-rows c.args.recording (search (rules, mapped_length, c.well_formed)) c.requires.few, c.loop-n-test.true) in
    let is_row = row_at c.args.recording c.loop-n.n c.loop-n-test.true in
    let inside = c.requires.inside c.loop-n.n c.loop-n-test.true in
    let work = (c.figure-total.ensures ∙ ap (λ (q : List (List ℕ)). figure q 0 row.at) c.loop-n.invariant.1 ∙ tabulate_at max_jobs (total (take c.loop-n.n rows)) row.at inside) in
    let began = (c.figure-begin.ensures ∙ ap (λ (q : List (List ℕ)). figure q 1 row.at) c.loop-n.invariant.1 ∙ tabulate_at max_jobs (begin (take c.loop-n.n rows)) row.at inside) in
    let first = c.begin_after.ensures ∙ ap (λ (x : ℕ). cond (eqb c.figure-total.result 0) row.from x) began in
    let next = course-next rows rising c.loop-n.n here row is_row _ c.loop-n.invariant.1 inside _ _ work first in
    (omega (arith, c.loop-n-test.true), next)

pub returns : goal.returns
returns c =
    let full : length c.args.recording.rows ≡ max_rows = search (rules, mapped_length, c.well_formed) in
    let recording = c.args.recording in
    let all : length (rows_of recording) ≤ c.loop-n.n = omega (arith, length-rows recording full c.requires.few, c.loop-n-test.false) in
    c.loop-n.invariant.1 ∙ ap course_of (take_all c.loop-n.n (rows_of recording) all)
