-- The names that programs are given as arguments. Assumes nothing.
use Rattle.std.specs.Prelude.{ℕ, cond, List, [], leb, length, get_or}

-- The most bytes that the name of a case has.
abbrev pub max_name : ℕ
max_name = 64

-- The argument at a place; none beyond the last, nor where it is longer than a name.
abbrev pub name_at : List (List ℕ) → ℕ → List ℕ
name_at arguments place = let name = get_or arguments place [] in cond (leb (length name) max_name) name []
