-- The text in the parts that the code puts: a row as two threes of numbers, a job's rows chain by chain, all rows job by job. Assumes nothing.
--   three_text   three numbers with commas between them
--   six_numbers  the numbers of a row
--   chain_text   the row of a job and one chain, none of its own
use Prim.Native.Nat.{ℕ, suc, ◌+◌, ◌-◌}
use mathlib.Core.List.{List, [], ◌∷◌, ◌++◌, map, map-append, append_assoc, append-nil}
use mathlib.Core.Logic.{◌≢◌}
use mathlib.Core.Path.{◌≡◌, refl, ap, ◌∙◌}
use native.Mathlib.Omega.{arith}
use native.Mathlib.Numerals.{add-one}
use lib.IntN.{ℤ, pos}
use lib.ListN.{length, get_or, length-append}
use borrow.Author.Tests.{eq-eqb, ne_eqb}
use Rattle.laws.specs.Words.{ascii}
use Rattle.laws.proofs.Pieces.{Made}
use Rattle.decimal.specs.Digits.{digit_count, decimal, signed}
use Rattle.jobs.specs.declared.job.Job.{Job}
use Rattle.jobs.specs.Jobs.{job_at, chains_of}
use Rattle.completion.specs.declared.answer.Delay.{Delay}
use Rattle.completion.specs.Delays.{no_block, no_delay}
use Rattle.texts.specs.Lines.{after_commas, lines_text}
use Rattle.texts.proofs.Lines.{line_end, line_text, line_is, lines_append}
use Rattle.blocks.specs.Texts.{block_row, other_chain, other_chains, job_rows, blocks_rows}

abbrev pub three_text : ℕ → ℕ → ℕ → List ℕ
three_text a b c = decimal a ++ ascii "," ++ decimal b ++ ascii "," ++ decimal c

pub three_length : (a b c : ℕ) → length (three_text a b c) ≡ digit_count a + digit_count b + digit_count c + 2
three_length a b c =
    omega (
      arith,
      length-append (decimal a ++ ascii "," ++ decimal b ++ ascii ",") (decimal c),
      length-append (decimal a ++ ascii "," ++ decimal b) (ascii ","),
      length-append (decimal a ++ ascii ",") (decimal b),
      length-append (decimal a) (ascii ","),
    )

-- ---- a row
abbrev pub six_numbers : ℕ → ℕ → ℕ → ℕ → ℕ → ℕ → List ℤ
six_numbers a b c d e f = map pos (a ∷ b ∷ c ∷ d ∷ e ∷ f ∷ [])

six_parts : (a b c d e f : List ℕ)
    → (a ++ (44 ∷ (b ++ (44 ∷ (c ++ (44 ∷ (d ++ (44 ∷ (e ++ (44 ∷ (f ++ []))))))))))) ++ line_end
    ≡ (a ++ ascii "," ++ b ++ ascii "," ++ c) ++ ascii "," ++ (d ++ ascii "," ++ e ++ ascii "," ++ f) ++ line_end
six_parts a b c d e f = simp (append_assoc, append-nil) refl

pub row_text : (a b c d e f : ℕ) → line_text (six_numbers a b c d e f) ≡ three_text a b c ++ ascii "," ++ three_text d e f ++ ascii "\r\n"
unfolding after_commas signed
row_text a b c d e f =
    line_is (six_numbers a b c d e f) ∙ six_parts (decimal a) (decimal b) (decimal c) (decimal d) (decimal e) (decimal f)

pub row-length : (a b c d e f : ℕ) → length (line_text (six_numbers a b c d e f)) ≡ length (three_text a b c) + length (three_text d e f) + 3
row-length a b c d e f =
    ap length (row_text a b c d e f)
    ∙ omega (
      arith,
      length-append (three_text a b c ++ ascii "," ++ three_text d e f) (ascii "\r\n"),
      length-append (three_text a b c ++ ascii ",") (three_text d e f),
      length-append (three_text a b c) (ascii ","),
    )

-- ---- rows after rows
abbrev pub chain_text : Job → Delay → ℕ → List ℕ
chain_text j d n = lines_text (map (block_row j d) (other_chain j.chain (suc n)))

pub job-made : (j : Job) (d : Delay) (chains : ℕ) → Made (λ n. lines_text (job_rows n j d)) (chain_text j d) chains
unfolding lines_text other_chains
job-made j d chains =
    record {
      none = refl;
      next = λ n h.
          let one = other_chain j.chain (suc n) in
          rw add-one
          (ap lines_text (map-append (block_row j d) (other_chains j.chain n) one)
          ∙ lines_append (map (block_row j d) (other_chains j.chain n)) (map (block_row j d) one));
    }

pub rows_made : (js : List Job) (delays : List Delay) (total : ℕ)
    → Made (λ n. lines_text (blocks_rows js delays n)) (λ n. lines_text (job_rows (chains_of js) (job_at js n) (get_or delays n no_delay))) total
unfolding lines_text blocks_rows
rows_made js delays total =
    record {
      none = refl;
      next = λ n h. rw add-one (lines_append (blocks_rows js delays n) (job_rows (chains_of js) (job_at js n) (get_or delays n no_delay)));
    }

-- ---- the row of one chain
pub own_text : (j : Job) (d : Delay) (n : ℕ) → n + 1 ≡ j.chain → chain_text j d n ≡ []
unfolding lines_text
own_text j d n e = let own : suc n ≡ j.chain = omega (arith, e) in rw (eq-eqb (suc n) j.chain own) refl

pub other_text : (j : Job) (d : Delay) (n : ℕ) → n + 1 ≢ j.chain
    → let block = get_or d.blocks n no_block in chain_text j d n ≡ line_text (six_numbers j.chain j.job d.from (n + 1) block.first block.last)
other_text j d n ne =
    let place : suc n - 1 ≡ n = omega arith in
    rw (ne_eqb (suc n) j.chain (λ e. ne (omega (arith, e))), place, add-one) refl
