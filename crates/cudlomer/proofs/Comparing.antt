-- The comparison of two recordings as C sees it: what is refused, and the numbers in memory. Assumes nothing.
use Prim.Native.Nat.{ℕ}
use mathlib.Core.Path.{◌≡◌, refl, sym, ap, ◌∙◌}
use mathlib.Core.List.{List}
use lib.ListN.{length}
use Rattle.laws.specs.Words.{written}
use Rattle.jobs.specs.declared.job.Job.{Job}
use Rattle.jobs.specs.declared.refusal.Refusal.{Refusal}
use Rattle.std.specs.Prelude.{Result, ⊤, Ok, Err}
use Rattle.numbers.specs.Numbers.{room_check}
use Rattle.recorders.specs.declared.compare.Compared.{Compared}
use Rattle.recorders.specs.Comparing.{compared_of}
use Rattle.cudlomer.specs.Codes.{refusal_code, checked_code}
use Rattle.cudlomer.specs.Recordings.{compared_numbers, compare_code, compare_into}

module _ (js : List Job) (first second : List ℕ) (answer : Result Compared Refusal) (e : answer ≡ compared_of js first second) where
  pub compare_refused : (refusal : Refusal) (memory : List ℕ) → answer ≡ Err refusal
      → (refusal_code refusal ≡ compare_code js first second memory) × (memory ≡ compare_into js first second memory)
  unfolding compare_code compare_into
  compare_refused refusal memory told = rw (sym e ∙ told) (refl, refl)

  pub compare_done : (compared : Compared) → answer ≡ Ok compared → (check : Result ⊤ Refusal) (memory after numbers : List ℕ) → numbers ≡ compared_numbers compared
      → (check ≡ room_check (length numbers) memory) × (after ≡ written numbers memory)
      → (checked_code check 4 ≡ compare_code js first second memory) × (after ≡ compare_into js first second memory)
  unfolding compare_code compare_into
  compare_done compared told check memory after numbers is put =
      let there = rw is at put in
      rw (sym e ∙ told) (ap (λ (k : Result ⊤ Refusal). checked_code k 4) there.0, there.1)
