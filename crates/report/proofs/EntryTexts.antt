-- The rows of the trace text, one after another. Assumes nothing.
use Prim.Native.Nat.{ℕ, ◌+◌, ◌-◌, ◌*◌, ◌≤◌}
use mathlib.Core.List.{List, map}
use mathlib.Core.Path.{◌≡◌}
use native.Mathlib.Omega.{arith}
use lib.IntN.{pos}
use lib.ListN.{length, take, drop, length-take}
use Rattle.report.specs.Texts.{entry_row}
use Rattle.texts.proofs.Lines.{line_text, lines_up_to}

-- the line of entry n, and the lines of the first entries
abbrev pub entry_text : List ℕ → ℕ → List ℕ
entry_text numbers n = line_text (entry_row numbers n)

abbrev pub entries_text : List ℕ → ℕ → List ℕ
entries_text numbers n = lines_up_to (entry_row numbers) n

-- the numbers of entry n, as the borrow checker has a part of a slice
abbrev pub entry_part : List ℕ → ℕ → List ℕ
entry_part numbers n = take (4 * n + 4 - 4 * n) (drop (4 * n) numbers)

pub part_row : (numbers : List ℕ) (n : ℕ) → map pos (entry_part numbers n) ≡ entry_row numbers n
part_row numbers n = let four : 4 * n + 4 - 4 * n ≡ 4 = omega arith in rw four

pub part_few : (numbers : List ℕ) (n : ℕ) → length (entry_part numbers n) ≤ 4
part_few numbers n = omega (arith, length-take (4 * n + 4 - 4 * n) (drop (4 * n) numbers))
