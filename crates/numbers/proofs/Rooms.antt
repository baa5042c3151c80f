-- Room in lent memory: number 9, and what is written of numbers, jobs and states where there is room. Assumes nothing.
use Prim.Native.Nat.{ℕ, ◌+◌, ◌*◌, ◌≤◌, ◌<◌}
use mathlib.Core.Path.{◌≡◌, refl, sym, ◌∙◌}
use mathlib.Core.List.{List, [], ◌∷◌, append-nil}
use native.Mathlib.Omega.{arith}
use native.Mathlib.Nat.{add-zero}
use lib.ListN.{length, drop, length-append, drop_of_length-le, take-append-drop}
use borrow.Author.Tests.{le-leb, lt-leb}
use Rattle.laws.specs.Words.{patched, written}
use Rattle.laws.proofs.Buffers.{wrote_first, wrote_more, written-patched, written_short}
use Rattle.jobs.specs.declared.job.Job.{Job}
use Rattle.std.specs.Prelude.{Ok, Err}
use Rattle.jobs.specs.declared.refusal.Refusal.TheVariants.{ShortBuffer, TooManyRecords}
use Rattle.jobs.specs.Limits.{max_jobs}
use Rattle.machine.specs.declared.state.State.{State}
use Rattle.numbers.specs.Numbers.{job_size, numbers_of, state_size, state_numbers, room_check, put_check, put_from}

pub room_passes : (size : ℕ) (memory : List ℕ) → size ≤ length memory → (Ok tt) ≡ room_check size memory
unfolding room_check
room_passes size memory h = rw (le-leb size (length memory) h)

pub room_short : (size : ℕ) (memory : List ℕ) → length memory < size → Err ShortBuffer ≡ room_check size memory
unfolding room_check
room_short size memory h = rw (lt-leb size (length memory) h)

-- numbers that do not fit, and numbers that do
pub put_short : (numbers memory : List ℕ) → length memory < length numbers → (Err ShortBuffer ≡ room_check (length numbers) memory) × (memory ≡ written numbers memory)
put_short numbers memory h = (room_short (length numbers) memory h, sym (written_short numbers memory h))

pub put_fits : (numbers memory after : List ℕ) → length numbers ≤ length memory → after ≡ patched memory 0 numbers → ((Ok tt) ≡ room_check (length numbers) memory) × (after ≡ written numbers memory)
put_fits numbers memory after h e = (room_passes (length numbers) memory h, e ∙ sym (written-patched numbers memory h))

-- jobs from a place on: more than a set has places for, too many for the memory, and jobs that fit
module _ (js : List Job) (from : ℕ) (memory : List ℕ) where
  pub jobs_many : max_jobs < length js → (Err TooManyRecords ≡ put_check js memory) × (memory ≡ put_from js from memory)
  unfolding put_check put_from
  jobs_many h = rw (lt-leb (length js) max_jobs h) (refl, refl)

  pub jobs_short : length js ≤ max_jobs → length memory < job_size * length js → (Err ShortBuffer ≡ put_check js memory) × (memory ≡ put_from js from memory)
  unfolding put_check put_from
  jobs_short h short = rw (le-leb (length js) max_jobs h, ← room_short (job_size * length js) memory short) (refl, refl)

  pub jobs_fit : (after : List ℕ) → length js ≤ max_jobs → job_size * length js ≤ length memory → after ≡ patched memory (job_size * from) (numbers_of (drop from js))
      → ((Ok tt) ≡ put_check js memory) × (after ≡ put_from js from memory)
  unfolding put_check put_from
  jobs_fit after h room e = rw (le-leb (length js) max_jobs h, ← room_passes (job_size * length js) memory room) (refl, e)

  -- none from a place beyond the last on
  pub jobs_none : length js ≤ from → memory ≡ patched memory (job_size * from) (numbers_of (drop from js))
  unfolding numbers_of patched
  jobs_none h = rw (drop_of_length-le js h, add-zero, append-nil) (sym (take-append-drop (job_size * from) memory))

-- a state that does not fit, and one written part after part
module _ (s : State) (memory : List ℕ) (full : length s.work ≡ max_jobs) (whole : length s.completions ≡ max_jobs) where
  state-length : length (state_numbers s) ≡ state_size
  state-length = omega (arith, length-append s.work s.completions, full, whole)

  pub state_short : length memory < state_size → (Err ShortBuffer ≡ room_check state_size memory) × (memory ≡ written (state_numbers s) memory)
  state_short h = (room_short state_size memory h, sym (written_short (state_numbers s) memory (omega (arith, state-length))))

  pub state_fits : {timed worked after : List ℕ} → state_size ≤ length memory → timed ≡ patched memory 0 (s.time ∷ []) → worked ≡ patched timed 1 s.work → after ≡ patched worked (1 + max_jobs) s.completions
      → ((Ok tt) ≡ room_check state_size memory) × (after ≡ written (state_numbers s) memory)
  state_fits h e f g =
      let next : 1 + max_jobs ≡ 1 + length s.work = omega (arith, full) in
      let first = wrote_first (s.time ∷ []) (omega arith) (refl, e) in
      let all = wrote_more s.completions (wrote_more s.work first (next, f)) (refl, g) in
      (room_passes state_size memory h, all.list ∙ sym (written-patched (state_numbers s) memory (omega (arith, state-length))))
