-- What lines tell a reader: lines one after another, a time, and a wire that takes a value. Assumes nothing.
--   Reads    lines lead from what is seen before them to what is seen after them
--   seen_as   what is seen, by the levels of the wires of a table's jobs
use Rattle.std.specs.Prelude.{Option, None, Some}
use Prim.Native.Nat.{ℕ, ◌≤◌, ◌<◌}
use mathlib.Core.Path.{◌≡◌, refl, ◌∙◌}
use mathlib.Core.Bool.{Bool, true, false, cond}
use mathlib.Core.List.{List, [], ◌∷◌, ◌++◌}
use lib.ListN.{length}
use Rattle.jobs.specs.declared.job.Job.{Job}
use Rattle.machine.specs.Ticks.{last_time}
use Rattle.dumps.specs.Dumps.{time_line, value_line}
use Rattle.dumps.specs.Readers.{on_some, Level, Wire, Seen, is_later, changed, risen, fallen, seen_line, seen_lines}
use Rattle.dumps.proofs.Numbers.{time_narrow, number_back}
use Rattle.dumps.proofs.Wires.{wire_at, wires_of, Becomes, wires_ext, wire_found, with_level_lem}

-- ---- lines one after another
abbrev pub Reads : List (List ℕ) → Seen → Seen → Type 0
Reads lines before after = seen_lines lines before ≡ Some after

pub reads_none : (s : Seen) → Reads [] s s
unfolding seen_lines
reads_none s = refl

pub reads_line : (line : List ℕ) (lines : List (List ℕ)) (s : Seen) {m after : Seen} → seen_line line s ≡ Some m → Reads lines m after → Reads (line ∷ lines) s after
unfolding seen_lines
reads_line line lines s e f = rw e f

then_both : (o : Option Seen) (f g h : Seen → Option Seen) → ((m : Seen) → f m ≡ on_some (g m) h) → on_some o f ≡ on_some (on_some o g) h
then_both None f g h e = refl
then_both (Some m) f g h e = e m

lines_append : (a b : List (List ℕ)) (s : Seen) → seen_lines (a ++ b) s ≡ on_some (seen_lines a s) (seen_lines b)
unfolding seen_lines
lines_append [] b s = refl
lines_append (line ∷ a) b s = then_both (seen_line line s) (seen_lines (a ++ b)) (seen_lines a) (seen_lines b) (lines_append a b)

pub reads_append : (a b : List (List ℕ)) (s : Seen) {m after : Seen} → Reads a s m → Reads b m after → Reads (a ++ b) s after
reads_append a b s e f = lines_append a b s ∙ rw e f

-- ---- one line
-- how a wire takes a value
abbrev pub turned : Bool → Wire → ℕ → Seen → Option Seen
turned value = cond value risen fallen

module _ (js : List Job) where
  abbrev pub seen_as : Option ℕ → (ℕ → Level) → List ℕ → Seen
  seen_as time levels done = record { time = time; wires = wires_of js levels; rows = done }

  pub seen_ext : (time : Option ℕ) (levels after : ℕ → Level) (done : List ℕ) → ((k : ℕ) → k < length js → levels k ≡ after k) → seen_as time levels done ≡ seen_as time after done
  seen_ext time levels after done h = rw (wires_ext js levels after h)

  pub time_told : (last : Option ℕ) (t : ℕ) (levels : ℕ → Level) (done : List ℕ) → is_later last t ≡ true → t ≤ last_time
      → seen_line (time_line t) (seen_as last levels done) ≡ Some (seen_as (Some t) levels done)
  unfolding seen_line
  time_told last t levels done later l = rw (number_back t (time_narrow t l), later)

  pub value_told : (value : Bool) (u now : ℕ) (level : Level) (levels after : ℕ → Level) (done more : List ℕ) → u < length js → Becomes u level levels after
      → turned value (wire_at js levels u) now (seen_as (Some now) levels done) ≡ Some (changed (wire_at js levels u) level more (seen_as (Some now) levels done))
      → seen_line (value_line value u) (seen_as (Some now) levels done) ≡ Some (seen_as (Some now) after (done ++ more))
  unfolding seen_line
  value_told true u now level levels after done more l becomes e = rw (wire_found js levels u l, e, with_level_lem js u level levels after becomes)
  value_told false u now level levels after done more l becomes e = rw (wire_found js levels u l, e, with_level_lem js u level levels after becomes)
