-- A text that starts with a header: byte by byte, and as its first line. Assumes nothing.
use Rattle.std.specs.Prelude.{Some, None}
use Prim.Native.Nat.{ℕ, ◌+◌, ◌≤◌, ◌<◌}
use mathlib.Core.Bool.{true, false, cond}
use mathlib.Core.List.{List, [], ◌∷◌, ◌++◌}
use mathlib.Core.Path.{◌≡◌, sym, ap, ◌∙◌}
use mathlib.Core.Logic.{◌≢◌}
use native.Mathlib.Omega.{arith}
use lib.ListN.{length, take, drop, length-append, length-take, length-drop, take-append-drop}
use lib.Seq.{take-append_seam}
use lib.Dec.{leb, eqb}
use borrow.Author.Tests.{le-leb, leb-true, eq-eqb, ne_eqb, eqb-true, eqb-false}
use Rattle.laws.specs.Words.{same_up_to}
use Rattle.laws.proofs.Tests.{by_test, both_ways, never_true, and_left, and_right, and_both}
use Rattle.laws.proofs.Same.{same_whole, same_front, front_same}
use Rattle.laws.proofs.Lines.{first_line, after_line, line_length, line_within, after-within, after-drop, first_take}
use Rattle.decimal.proofs.Absence.{lacks}
use Rattle.table.specs.Lines.{lines_of, is_line, under, end_of, starts_with, end_behind}
use Rattle.table.proofs.Lines.{lines_cons, end-within}
use Rattle.table.proofs.PlainLines.{goes_on}

-- ---- with the front taken off, and byte by byte
-- a text that starts with the prefix is the prefix and what is behind it
front_whole : (prefix text : List ℕ) → starts_with prefix text ≡ true → prefix ++ drop (length prefix) text ≡ text
front_whole prefix text e =
    let fits = leb (length prefix) (length text) in
    let same = same_up_to (length prefix) text prefix in
    let front : take (length prefix) text ≡ prefix = same_front text prefix (leb-true _ _ (and_left fits same e)) (and_right fits same e) in
    ap (λ (l : List ℕ). l ++ drop (length prefix) text) (sym front) ∙ take-append-drop (length prefix) text

module _ (prefix text : List ℕ) where
  prefix_done : length prefix ≤ length text → same_up_to (length prefix) text prefix ≡ true → starts_with prefix text ≡ true
  prefix_done h e = and_both _ _ (le-leb (length prefix) (length text) h) e

  pub prefix_off : (rest : List ℕ) → text ≡ prefix ++ rest → starts_with prefix text ≡ true
  prefix_off rest e =
      prefix_done (omega (arith, ap length e, length-append prefix rest)) (front_same text prefix (ap (take (length prefix)) e ∙ take-append_seam prefix rest))

  pub prefix_other : ((rest : List ℕ) → text ≢ prefix ++ rest) → starts_with prefix text ≡ false
  prefix_other h = never_true _ (λ e. h (drop (length prefix) text) (sym (front_whole prefix text e)))

-- ---- as the first line; the prefix holds no CR
-- a line that starts with the prefix is the prefix where nothing follows
line_append : (prefix rest : List ℕ) → is_line prefix (prefix ++ rest) ≡ eqb (length rest) 0
line_append prefix rest =
    by_test (eqb (length rest) 0)
    (λ t.
    let n : length (prefix ++ rest) ≡ length prefix = omega (arith, length-append prefix rest, eqb-true (length rest) 0 t) in
    and_both _ _ (eq-eqb _ _ n) (front_same (prefix ++ rest) prefix (take-append_seam prefix rest)) ∙ sym t)
    (λ t. rw (ne_eqb (length (prefix ++ rest)) (length prefix) (λ z. eqb-false (length rest) 0 t (omega (arith, length-append prefix rest)))) (sym t))

-- a text that starts with the prefix
record Starts (prefix text : List ℕ) : Type 0 where
  within : length prefix ≤ length text
  line : is_line prefix (first_line text) ≡ eqb (length (first_line (drop (length prefix) text))) 0
  after : after_line (drop (length prefix) text) ≡ after_line text

starts : (prefix text : List ℕ) → lacks 13 prefix ≡ true → starts_with prefix text ≡ true → Starts prefix text
starts prefix text n e =
    let rest = drop (length prefix) text in
    let fits = leb (length prefix) (length text) in
    let same = same_up_to (length prefix) text prefix in
    let short : length prefix ≤ length text = leb-true _ _ (and_left fits same e) in
    let whole : prefix ++ rest ≡ text = front_whole prefix text e in
    let r = goes_on prefix rest n in
    record {
      within = short;
      line = ap (is_line prefix) (ap first_line (sym whole) ∙ r.line) ∙ line_append prefix (first_line rest);
      after = sym r.after ∙ ap after_line whole;
    }

-- a text whose first line is the prefix starts with it
line_starts : (prefix text : List ℕ) → is_line prefix (first_line text) ≡ true → starts_with prefix text ≡ true
line_starts prefix text e =
    let fits = eqb (length (first_line text)) (length prefix) in
    let same = same_up_to (length prefix) (first_line text) prefix in
    let line : first_line text ≡ prefix = same_whole (first_line text) prefix (eqb-true _ _ (and_left fits same e)) (and_right fits same e) in
    let front : take (length prefix) text ≡ prefix = ap (λ (l : List ℕ). take (length l) text) (sym line) ∙ sym (first_take text) ∙ line in
    prefix_done prefix text (omega (arith, ap length front, length-take (length prefix) text)) (front_same text prefix front)

-- ---- the line ends behind the prefix, or elsewhere
module _ (prefix text : List ℕ) where
  pub behind_not : starts_with prefix text ≡ false → None ≡ end_behind prefix text
  unfolding end_behind
  behind_not e = rw e

  module _ (e : starts_with prefix text ≡ true) where
    pub prefix_within : length prefix ≤ length text
    prefix_within = leb-true _ _ (and_left (leb (length prefix) (length text)) (same_up_to (length prefix) text prefix) e)

    pub behind_room : (n : ℕ) → end_of (drop (length prefix) text) ≡ Some n → length prefix + n ≤ length text
    behind_room n f = omega (arith, prefix_within, end-within (drop (length prefix) text) n f, length-drop (length prefix) text)

    pub behind_here : (n : ℕ) → end_of (drop (length prefix) text) ≡ Some n → Some (length prefix + n) ≡ end_behind prefix text
    unfolding end_behind
    behind_here n f = rw (e, f)

    pub behind-longer : end_of (drop (length prefix) text) ≡ None → None ≡ end_behind prefix text
    unfolding end_behind
    behind-longer f = rw (e, f)

-- ---- so that a prefix that holds no CR is the first line
pub behind_line : (prefix text : List ℕ) → lacks 13 prefix ≡ true → end_behind prefix text ≡ cond (is_line prefix (first_line text)) (Some (line_length text)) None
behind_line prefix text plain =
    by_test (starts_with prefix text)
    (λ e.
    let s = starts prefix text plain e in
    let rest = drop (length prefix) text in
    let whole : length prefix + line_length rest ≡ line_length text = omega (arith, s.within, ap length s.after, length-drop (length prefix) text, after-within rest) in
    by_test (eqb (length (first_line rest)) 0)
    (λ t. sym (behind_here prefix text e (line_length rest) (rw t)) ∙ ap Some whole ∙ sym (rw (s.line ∙ t)))
    (λ t. sym (behind-longer prefix text e (rw t)) ∙ sym (rw (s.line ∙ t))))
    (λ e. sym (behind_not prefix text e) ∙ sym (rw (never_true (is_line prefix (first_line text)) (λ t. both_ways (line_starts prefix text t) e))))

-- ---- the lines under a header that is some text
module _ {A : Type 0} (header : List ℕ) (some : 0 < length header) (plain : lacks 13 header ≡ true) (answer : List (List ℕ) → A) (otherwise : A) where
  pub under_first : (text : List ℕ) → under header (lines_of text) answer otherwise ≡ cond (is_line header (first_line text)) (answer (lines_of (after_line text))) otherwise
  unfolding lines_of first_line
  under_first [] = sym (rw (ne_eqb 0 (length header) (λ z. omega arith)))
  under_first (b ∷ text) = rw (lines_cons b text)

  pub under_not : (text : List ℕ) → end_behind header text ≡ None → otherwise ≡ under header (lines_of text) answer otherwise
  under_not text e =
      by_test (is_line header (first_line text))
      (λ t. let z : ◌≡◌ {A = ℕ} 0 1 = cc (rw t at (sym (behind_line header text plain) ∙ e)) in absurd (omega arith))
      (λ t. sym (under_first text ∙ rw t))

  pub under_here : (text : List ℕ) (n : ℕ) → end_behind header text ≡ Some n → (n ≤ length text) × (answer (lines_of (drop n text)) ≡ under header (lines_of text) answer otherwise)
  under_here text n e =
      by_test (is_line header (first_line text))
      (λ t.
      let m : line_length text ≡ n = cc (rw t at (sym (behind_line header text plain) ∙ e)) in
      let after : drop n text ≡ after_line text = rw (← m) (after-drop text) in
      (omega (arith, line_within text), ap (λ (rest : List ℕ). answer (lines_of rest)) after ∙ sym (under_first text ∙ rw t)))
      (λ t. let z : ◌≡◌ {A = ℕ} 0 1 = cc (rw t at (sym (behind_line header text plain) ∙ e)) in absurd (omega arith))
