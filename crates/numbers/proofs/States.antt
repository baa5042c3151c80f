-- A state in memory: its columns read place by place, and what is written and read back. Assumes nothing.
--   column_slice   a column is the numbers that stand there, where there are as many
use Prim.Native.Nat.{ℕ, ◌+◌, ◌≤◌, ◌<◌}
use mathlib.Core.Path.{◌≡◌, sym, ap, ap₂, ◌∙◌}
use mathlib.Core.List.{List, [], ◌∷◌, ◌++◌}
use native.Mathlib.Omega.{arith}
use native.Mathlib.Nat.{zero-add}
use lib.ListN.{length, set, take, drop, replicate, length-append, length-drop, take-append-drop}
use lib.Seq.{ext_get_or, get_or-take, get_or-drop, length-take-le, take_all, take-add, take_at, drop_at}
use Rattle.laws.specs.Words.{tabulate, padded, number_at, patched, written}
use Rattle.laws.proofs.Lists.{padded_full}
use Rattle.laws.proofs.Tabulate.{length-tabulate, get_d_tabulate}
use Rattle.laws.proofs.Buffers.{written-patched}
use Rattle.laws.proofs.Filling.{filled_none, filled_next}
use Rattle.jobs.specs.Limits.{max_jobs}
use Rattle.machine.specs.declared.state.State.{State}
use Rattle.numbers.specs.Numbers.{state_size, state_numbers, column_in, state_in}

-- ---- a column, read place by place
module _ (numbers : List ℕ) (from : ℕ) where
  abbrev number_in : ℕ → ℕ
  number_in i = number_at numbers (from + i)

  -- the first n numbers of a column are read
  abbrev pub ColumnRead : ℕ → List ℕ → Type 0
  ColumnRead n column = (n ≤ max_jobs) × (column ≡ padded max_jobs 0 (tabulate 0 n number_in))

  pub column_none : ColumnRead 0 (replicate max_jobs 0)
  column_none = (omega arith, filled_none max_jobs 0 number_in)

  pub column-next : (n : ℕ) (column : List ℕ) (x : ℕ) → ColumnRead n column → n < max_jobs → x ≡ number_at numbers (from + n) → ColumnRead (n + 1) (set column n x)
  column-next n column x h l e = (omega arith, filled_next max_jobs 0 number_in n column x l h.1 e)

  pub column_all : (n : ℕ) (column : List ℕ) → ColumnRead n column → max_jobs ≤ n → column ≡ column_in numbers from
  unfolding column_in
  column_all n column h l =
      let all : n ≡ max_jobs = omega (arith, h.0) in
      h.1 ∙ ap (λ (k : ℕ). padded max_jobs 0 (tabulate 0 k number_in)) all ∙ padded_full max_jobs 0 _ (length-tabulate 0 max_jobs number_in)

  column_slice : from + max_jobs ≤ length numbers → column_in numbers from ≡ take max_jobs (drop from numbers)
  unfolding column_in
  column_slice h =
      let count = length-tabulate 0 max_jobs number_in in
      let part = length-take-le max_jobs (drop from numbers) (omega (arith, length-drop from numbers)) in
      ext_get_or 0 (tabulate 0 max_jobs number_in) (take max_jobs (drop from numbers)) (count ∙ sym part)
      (λ i l. get_d_tabulate 0 max_jobs number_in 0 i (omega (arith, count))
      ∙ ap number_in (zero-add i)
      ∙ sym (get_or-take max_jobs (drop from numbers) i 0 (omega (arith, count)) ∙ get_or-drop from numbers i 0))

-- ---- a state, read column by column
abbrev state_of : ℕ → List ℕ → List ℕ → State
state_of t work completions = record { time = t; work = work; completions = completions }

pub state_read : (numbers : List ℕ) (t : ℕ) (work completions : List ℕ) → t ≡ number_at numbers 0 → work ≡ column_in numbers 1 → completions ≡ column_in numbers (1 + max_jobs)
    → record { time = t; work = work; completions = completions } ≡ state_in numbers
unfolding state_in
state_read numbers t work completions e f g = rw (e, f, g)

-- ---- a state that is written and read back
pub state_back : (s : State) → length s.work ≡ max_jobs → length s.completions ≡ max_jobs → state_in (state_numbers s) ≡ s
unfolding state_in
state_back s full whole =
    let numbers = state_numbers s in
    let size = length-append s.work s.completions in
    let work : column_in numbers 1 ≡ s.work = column_slice numbers 1 (omega (arith, size, full, whole)) ∙ take_at s.work s.completions max_jobs full in
    let completions : column_in numbers (1 + max_jobs) ≡ s.completions =
    column_slice numbers (1 + max_jobs) (omega (arith, size, full, whole))
    ∙ ap (take max_jobs) (drop_at s.work s.completions max_jobs full)
    ∙ take_all max_jobs s.completions (omega (arith, whole)) in
    ap₂ (state_of s.time) work completions

-- ---- a state that is read and written back
read_state : (memory : List ℕ) → state_size ≤ length memory → state_numbers (state_in memory) ≡ take state_size memory
unfolding state_in
read_state [] h = absurd (omega arith)
read_state (t ∷ rest) h =
    let work = column_slice (t ∷ rest) 1 (omega arith) in
    let completions = column_slice (t ∷ rest) (1 + max_jobs) (omega arith) in
    ap (λ (l : List ℕ). t ∷ l) (ap₂ (λ (a b : List ℕ). a ++ b) work completions ∙ sym (take-add max_jobs max_jobs rest))

pub memory_back : (memory : List ℕ) → state_size ≤ length memory → written (state_numbers (state_in memory)) memory ≡ memory
unfolding patched
memory_back memory h =
    let size : length (take state_size memory) ≡ state_size = length-take-le state_size memory h in
    let next : 0 + length (take state_size memory) ≡ state_size = omega (arith, size) in
    rw (read_state memory h)
    (written-patched (take state_size memory) memory (omega (arith, size)) ∙ ap (λ (n : ℕ). take state_size memory ++ drop n memory) next ∙ take-append-drop state_size memory)
