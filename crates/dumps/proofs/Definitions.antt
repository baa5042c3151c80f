-- The definitions of a dump: a reader finds a wire for each job, in table order, and then the lines after the definitions. Assumes nothing.
use Rattle.std.specs.Prelude.{Some}
use Prim.Native.Nat.{ℕ, zero, suc, ◌+◌, ◌≤◌, ◌<◌}
use mathlib.Core.Path.{◌≡◌, refl, ap, ◌∙◌}
use mathlib.Core.Bool.{true, false}
use mathlib.Core.List.{List, [], ◌∷◌, ◌++◌, append_assoc}
use native.Mathlib.Omega.{arith}
use lib.ListN.{length}
use Rattle.laws.specs.Words.{tabulate, last_of, ascii}
use Rattle.decimal.specs.Digits.{decimal}
use Rattle.decimal.proofs.Absence.{lacks, lacks_none, lacks-cons, lacks-append, lacks-decimal}
use Rattle.jobs.specs.declared.job.Job.{Job}
use Rattle.jobs.specs.Jobs.{job_at}
use Rattle.jobs.proofs.Accepted.{Accepted}
use Rattle.dumps.specs.Identifiers.{identifier_of}
use Rattle.dumps.specs.Dumps.{name_of, declares, wire_line, header_lines}
use Rattle.dumps.specs.Readers.{unknown, same, words_of, word_at, wire_in, is_command, wires_in}
use Rattle.dumps.proofs.Identifiers.{identifier_lacks, identifier_fit}
use Rattle.dumps.proofs.Cuts.{word_cut}
use Rattle.dumps.proofs.Numbers.{chain_narrow, job_narrow, name_back}
use Rattle.dumps.proofs.Wires.{wire_at, wires_of}

-- ---- the line of a wire
pub name_lacks : (code chain number : ℕ) → code < 48 → lacks code (name_of chain number) ≡ true
name_lacks code chain number l =
    lacks-cons code 99 _ (λ e. omega arith)
    (lacks-append code (decimal chain ++ ascii "j") (decimal number)
    (lacks-append code (decimal chain) (ascii "j") (lacks-decimal code chain l) (lacks-cons code 106 [] (λ e. omega arith) (lacks_none code)))
    (lacks-decimal code number l))

last_words : (first second : List ℕ) → lacks 32 first ≡ true → lacks 32 second ≡ true
    → words_of (first ++ ascii " " ++ second ++ ascii " $end") ≡ first ∷ second ∷ ascii "$end" ∷ []
last_words first second f s =
    ap words_of regroup
    ∙ word_cut first (second ++ ascii " $end") f
    ∙ ap (λ (words : List (List ℕ)). first ∷ words) (word_cut second (ascii "$end") s ∙ unfold words_of in refl)
  where
    regroup : first ++ ascii " " ++ second ++ ascii " $end" ≡ first ++ 32 ∷ (second ++ ascii " $end")
    regroup = simp append_assoc

words_are : (u chain number : ℕ) → words_of (declares u chain number) ≡ ascii "$var" ∷ ascii "wire" ∷ ascii "1" ∷ identifier_of (suc u) ∷ name_of chain number ∷ ascii "$end" ∷ []
unfolding declares words_of
words_are u chain number =
    ap (λ (words : List (List ℕ)). ascii "$var" ∷ ascii "wire" ∷ ascii "1" ∷ words)
    (last_words (identifier_of (suc u)) (name_of chain number) (identifier_lacks 32 u (omega arith)) (name_lacks 32 chain number (omega arith)))

module _ (js : List Job) (ok : Accepted js) where
  wire_not_last : (u : ℕ) → same (wire_line js u) (ascii "$enddefinitions $end") ≡ false
  unfolding declares same
  wire_not_last u = refl

  wire_first : (u : ℕ) → same (word_at (wire_line js u) 0) (ascii "$var") ≡ true
  unfolding same
  wire_first u = rw (words_are u (job_at js u).chain (job_at js u).job)

  wire_back : (u : ℕ) → u < length js → wire_in (wire_line js u) ≡ Some (wire_at js (λ k. unknown) u)
  unfolding wire_in same
  wire_back u l =
      let words = words_are u (job_at js u).chain (job_at js u).job in
      let name = name_back (job_at js u).chain (job_at js u).job (omega (arith, chain_narrow js ok u l)) (omega (arith, job_narrow js ok u l)) in
      rw (words, name, identifier_fit u (omega (arith, ok.few)))

  -- ---- all lines
  wires_back : (lines after : List (List ℕ)) → wires_in lines ≡ Some ([], after) → (i n : ℕ) → i + n ≤ length js
      → wires_in (tabulate i n (wire_line js) ++ lines) ≡ Some (tabulate i n (wire_at js (λ k. unknown)), after)
  unfolding tabulate wires_in
  wires_back lines after e i zero l = e
  wires_back lines after e i (suc n) l = rw (wire_not_last i, wire_first i, wire_back i (omega arith), wires_back lines after e (suc i) n (omega arith))

  pub definitions_back : (after : List (List ℕ)) → wires_in (header_lines js ++ after) ≡ Some (wires_of js (λ k. unknown), after)
  unfolding header_lines wires_in is_command words_of last_of same
  definitions_back after =
      let last : List (List ℕ) = ascii "$upscope $end" ∷ ascii "$enddefinitions $end" ∷ [] in
      ap wires_in (append_assoc (tabulate 0 (length js) (wire_line js)) last after)
      ∙ wires_back (last ++ after) after refl 0 (length js) (omega arith)
