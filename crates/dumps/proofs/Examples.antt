-- What the reader makes of dumps by another hand, and of texts that are none. Assumes nothing.
use Rattle.std.specs.Prelude.{None, Some}
use Prim.Native.Nat.{ℕ}
use Prim.Native.String.{String}
use mathlib.Core.Path.{◌≡◌, refl}
use mathlib.Core.List.{List, [], ◌∷◌, ◌++◌}
use Rattle.laws.specs.Words.{ascii, last_of}
use Rattle.decimal.specs.Digits.{value_from}
use Rattle.decimal.specs.Fields.{is_digit, digit_run, leading_zero, is_numeral, field_of}
use Rattle.dumps.specs.Readers.{lines_in, words_of, same, number_in, job_named, printable, wire_in, is_command, wires_in, wire_of, with_level, none_high, seen_line, seen_lines, all_low, rows_in}

-- wires in another order, one with an identifier of two bytes, and another time scale
abbrev two_wires : List ℕ
two_wires = ascii "$date today $end\n$timescale 1 ns $end\n$var wire 1 1 c2j1 $end\n$var wire 1 0# c1j1 $end\n$enddefinitions $end\n"

pub other_dump : rows_in (two_wires ++ ascii "#3\n$dumpvars\n10#\n01\n$end\n#4\n00#\n11\n#12\n01\n") ≡ Some (1 ∷ 1 ∷ 3 ∷ 4 ∷ 2 ∷ 1 ∷ 4 ∷ 12 ∷ [])
unfolding rows_in lines_in words_of same number_in job_named printable wire_in is_command wires_in wire_of with_level none_high seen_line seen_lines all_low value_from is_digit digit_run leading_zero is_numeral field_of last_of
other_dump = refl

-- a value that is no change; a time that is not later; a rise before the fall; a wire that is not declared; one that is 1 at the end; CR before LF;
-- no LF at the end
abbrev NoDump : String → Type 0
NoDump text = rows_in (two_wires ++ ascii text) ≡ None

pub no_dumps : NoDump "#3\n01\n01\n00#\n"
    × NoDump "#3\n01\n00#\n#3\n11\n#4\n01\n"
    × NoDump "#3\n01\n10#\n#4\n11\n00#\n#5\n01\n"
    × NoDump "#3\n01\n00#\n0!\n"
    × NoDump "#3\n01\n10#\n"
    × NoDump "#3\r\n01\r\n00#\r\n"
    × NoDump "#3\n01\n00#"
unfolding rows_in lines_in words_of same number_in job_named printable wire_in is_command wires_in wire_of with_level none_high seen_line seen_lines all_low value_from is_digit digit_run leading_zero is_numeral field_of last_of
no_dumps = (refl, refl, refl, refl, refl, refl, refl)
