-- Bytes without a CR, code 13: what stands behind them goes on their line, and CR LF behind them makes them a line. Assumes nothing.
use Prim.Native.Nat.{ℕ, ◌<◌}
use mathlib.Core.Bool.{true}
use mathlib.Core.List.{List, [], ◌∷◌, ◌++◌, append_assoc, append-nil}
use mathlib.Core.Path.{◌≡◌, refl, ap, ap₂, ◌∙◌}
use mathlib.Core.Logic.{inl}
use native.Mathlib.Omega.{arith}
use lib.ListN.{length, length-append}
use borrow.Author.Tests.{eqb-false}
use Rattle.laws.specs.Words.{ascii}
use Rattle.laws.proofs.Lines.{first_line, after_line, no_break, first_break, after_break}
use Rattle.decimal.proofs.Absence.{lacks, lacks_first, lacks_rest}
use Rattle.table.specs.Lines.{lines_of}
use Rattle.table.proofs.Lines.{lines_cons}

-- ---- a byte that is no CR stays in its line
first_plain : (b : ℕ) (text : List ℕ) → (b ≡ 13 → ⊥) → first_line (b ∷ text) ≡ b ∷ first_line text
unfolding first_line
first_plain b [] h = refl
first_plain b (c ∷ text) h = rw (no_break b c (inl h))

after_plain : (b : ℕ) (text : List ℕ) → (b ≡ 13 → ⊥) → after_line (b ∷ text) ≡ after_line text
unfolding after_line
after_plain b [] h = refl
after_plain b (c ∷ text) h = rw (no_break b c (inl h))

-- what stands behind the prefix goes on its line
pub record GoesOn (prefix rest : List ℕ) : Type 0 where
  pub line : first_line (prefix ++ rest) ≡ prefix ++ first_line rest
  pub after : after_line (prefix ++ rest) ≡ after_line rest

pub goes_on : (prefix rest : List ℕ) → lacks 13 prefix ≡ true → GoesOn prefix rest
goes_on [] rest n = record { line = refl; after = refl }
goes_on (p ∷ prefix) rest n =
    let r = goes_on prefix rest (lacks_rest 13 p prefix n) in
    let other = eqb-false p 13 (lacks_first 13 p prefix n) in
    record {
      line = first_plain p (prefix ++ rest) other ∙ ap (λ (l : List ℕ). p ∷ l) r.line;
      after = after_plain p (prefix ++ rest) other ∙ r.after;
    }

-- ---- the lines of a text that begins with a line
lines_some : (text : List ℕ) → 0 < length text → lines_of text ≡ first_line text ∷ lines_of (after_line text)
lines_some [] h = absurd (omega arith)
lines_some (b ∷ text) h = lines_cons b text

pub lines_plain : (line rest : List ℕ) → lacks 13 line ≡ true → lines_of (line ++ ascii "\r\n" ++ rest) ≡ line ∷ lines_of rest
lines_plain line rest n =
    let behind : List ℕ = 13 ∷ 10 ∷ rest in
    let r = goes_on line behind n in
    let first : first_line (line ++ behind) ≡ line = r.line ∙ ap (λ (l : List ℕ). line ++ l) (first_break 13 10 rest refl) ∙ append-nil line in
    rw append_assoc
    (lines_some (line ++ behind) (omega (arith, length-append line behind))
    ∙ ap₂ (λ (l t : List ℕ). l ∷ lines_of t) first (r.after ∙ after_break 13 10 rest refl))
