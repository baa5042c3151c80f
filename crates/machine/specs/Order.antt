-- Which of two ready jobs goes first: the more urgent, among equals the one ready since the earlier time, then that of the lower chain number.
-- Document 01, "The machine", as document 02, R-2, has it. Assumes nothing.
use Rattle.std.specs.Prelude.{ℕ, zero, suc, max, Bool, cond, ◌&&◌, ◌||◌, ltb, eqb}
use Rattle.theory.specs.Table.{Table, joined}
use Rattle.machine.specs.declared.rank.Rank.{Rank}

-- Since when a ready job is ready, by the completions so far: its effective release or its predecessor's completion, whichever is later.
unfoldable pub ready_since : Table → (ℕ → ℕ) → ℕ → ℕ
ready_since t completed zero = t.earliest 0
ready_since t completed (suc v) = cond (joined t v) (max (t.earliest (suc v)) (completed v)) (t.earliest (suc v))

-- What ranks the ready job at u.
abbrev pub rank_of : Table → (ℕ → ℕ) → ℕ → Rank
rank_of t completed u = record { urgency = t.urgency u; since = ready_since t completed u; chain = t.chain u }

-- A job of rank a goes before one of rank b.
unfoldable pub outranks : Rank → Rank → Bool
outranks a b =
    ltb b.urgency a.urgency
    || (eqb a.urgency b.urgency && (ltb a.since b.since || (eqb a.since b.since && ltb a.chain b.chain)))
