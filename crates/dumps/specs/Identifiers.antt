-- The identifiers of wires in a dump. Document 02, R-1. Assumes nothing.
use Rattle.std.specs.Prelude.{ℕ, ◌+◌, List, [], ◌∷◌}

-- The bytes that stand for the wire of the n-th job of a table, n from 1: the character of code 32 + n.
unfoldable pub identifier_of : ℕ → List ℕ
identifier_of n = (32 + n) ∷ []
