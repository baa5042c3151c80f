-- `first_difference` meets its contract. The loop's invariant: the answer is that of the rows still to come in both.
-- Assumes nothing.
use Prim.Native.Nat.{◌≤◌, ◌<◌}
use Rattle.laws.proofs.Lists.{mapped_length}
use Rattle.recorders.proofs.InStep.{later, later_found, later-next, first_more, second_more, no_more}
use Rattle.recorders.proofs.Tallies.{length-rows, row_at}
use Rattle.recording.specs.Reading.{max_rows, rows_of}
use borrow.Author.Rules.{rules}
use lib.ListN.{length}
use mathlib.Core.Path.{◌≡◌, sym, ap, ◌∙◌}
use native.Mathlib.Omega.{arith}
use Rattle.recorders.proofs.difference.first_difference.Goals as goal

pub returns-in-Some : goal.returns-in-Some
returns-in-Some c =
    let l = c.loop-n in
    let first = c.args.first in
    let second = c.args.second in
    let in_first : l.n < first.count = omega (arith, c.loop-n-test.true, c.min-both.ensures) in
    let in_second : l.n < second.count = omega (arith, c.loop-n-test.true, c.min-both.ensures) in
    let full_first : length first.rows ≡ max_rows = search (rules, mapped_length, c.well_formed) in
    let full_second : length second.rows ≡ max_rows = search (rules, mapped_length, c.well_formed) in
    let here_first : l.n < length (rows_of first) = omega (arith, in_first, length-rows first full_first c.requires.0) in
    let here_second : l.n < length (rows_of second) = omega (arith, in_second, length-rows second full_second c.requires.1) in
    let found = later_found (rows_of first) (rows_of second) l.n here_first here_second _ _ (row_at first l.n in_first) (row_at second l.n in_second) in
    sym (l.invariant ∙ found _ (sym c.row_difference.ensures ∙ c.in-Some.is))

pub loop-n-preserved : goal.loop-n-preserved
loop-n-preserved c =
    let l = c.loop-n in
    let first = c.args.first in
    let second = c.args.second in
    let in_first : l.n < first.count = omega (arith, c.loop-n-test.true, c.min-both.ensures) in
    let in_second : l.n < second.count = omega (arith, c.loop-n-test.true, c.min-both.ensures) in
    let full_first : length first.rows ≡ max_rows = search (rules, mapped_length, c.well_formed) in
    let full_second : length second.rows ≡ max_rows = search (rules, mapped_length, c.well_formed) in
    let here_first : l.n < length (rows_of first) = omega (arith, in_first, length-rows first full_first c.requires.0) in
    let here_second : l.n < length (rows_of second) = omega (arith, in_second, length-rows second full_second c.requires.1) in
    let next = later-next (rows_of first) (rows_of second) l.n here_first here_second _ _ (row_at first l.n in_first) (row_at second l.n in_second) in
    l.invariant ∙ next (sym c.row_difference.ensures ∙ c.in_default.is)

pub returns-then-both-first : goal.returns-then-both-first
returns-then-both-first c =
    let l = c.loop-n in
    let both = c.min-both.result in
    let first = c.args.first in
    let second = c.args.second in
    let full_first : length first.rows ≡ max_rows = search (rules, mapped_length, c.well_formed) in
    let full_second : length second.rows ≡ max_rows = search (rules, mapped_length, c.well_formed) in
    let length_first = length-rows first full_first c.requires.0 in
    let length_second = length-rows second full_second c.requires.1 in
    let all : l.n ≡ both = omega (arith, l.auto.n-end, c.loop-n-test.false) in
    let rest = l.invariant ∙ ap (later (rows_of first) (rows_of second)) all in
    let more = c.if-both-first.true in
    let a : both < length (rows_of first) = omega (arith, more, length_first) in
    let b : length (rows_of second) ≤ both = omega (arith, more, length_second, c.min-both.ensures) in
    sym (rest ∙ first_more (rows_of first) (rows_of second) both a b _ (row_at first both more))

pub returns-then-both-second : goal.returns-then-both-second
returns-then-both-second c =
    let l = c.loop-n in
    let both = c.min-both.result in
    let first = c.args.first in
    let second = c.args.second in
    let full_first : length first.rows ≡ max_rows = search (rules, mapped_length, c.well_formed) in
    let full_second : length second.rows ≡ max_rows = search (rules, mapped_length, c.well_formed) in
    let length_first = length-rows first full_first c.requires.0 in
    let length_second = length-rows second full_second c.requires.1 in
    let all : l.n ≡ both = omega (arith, l.auto.n-end, c.loop-n-test.false) in
    let rest = l.invariant ∙ ap (later (rows_of first) (rows_of second)) all in
    let more = c.if-both-second.true in
    let a : length (rows_of first) ≤ both = omega (arith, c.if-both-first.false, length_first) in
    let b : both < length (rows_of second) = omega (arith, more, length_second) in
    sym (rest ∙ second_more (rows_of first) (rows_of second) both a b _ (row_at second both more))

pub returns : goal.returns
returns c =
    let l = c.loop-n in
    let both = c.min-both.result in
    let first = c.args.first in
    let second = c.args.second in
    let full_first : length first.rows ≡ max_rows = search (rules, mapped_length, c.well_formed) in
    let full_second : length second.rows ≡ max_rows = search (rules, mapped_length, c.well_formed) in
    let length_first = length-rows first full_first c.requires.0 in
    let length_second = length-rows second full_second c.requires.1 in
    let all : l.n ≡ both = omega (arith, l.auto.n-end, c.loop-n-test.false) in
    let rest = l.invariant ∙ ap (later (rows_of first) (rows_of second)) all in
    let a : length (rows_of first) ≤ both = omega (arith, c.if-both-first.false, length_first) in
    let b : length (rows_of second) ≤ both = omega (arith, c.if-both-second.false, length_second) in
    sym (rest ∙ no_more (rows_of first) (rows_of second) both a b)
