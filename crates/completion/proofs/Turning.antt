-- Windows, as the code holds them, from one pair to the next: one whose target falls is begun anew. Assumes nothing.
use Prim.Native.Nat.{ℕ, ◌≤◌, ◌<◌, min}
use mathlib.Core.Path.{◌≡◌, ap, ◌∙◌}
use mathlib.Core.Bool.{cond}
use mathlib.Core.List.{List}
use native.Mathlib.Omega.{arith}
use native.Mathlib.Nat.{min-eq_left}
use lib.Dec.{ltb}
use borrow.Author.Tests.{lt-ltb, le-ltb}
use Rattle.laws.proofs.Tests.{by_order}
use Rattle.theory.proofs.ChainWindow.{SweptIn, swept_none}
use Rattle.completion.specs.declared.window.Window.{Window}

-- a window swept for a target
abbrev pub WindowIn : List (List ℕ) → List ℕ → ℕ → ℕ → ℕ → Window → Type 0
WindowIn columns bound target from first window = SweptIn columns bound target from first window.lo window.hi window.edge window.largest

-- an empty one at its end
abbrev pub begun : Window → Window
begun window = record { lo = window.hi; hi = window.hi; edge = 0; largest = 0 }

module _ (columns : List (List ℕ)) (bound : List ℕ) (low urgency from first : ℕ) (window ready : Window) (h : WindowIn columns bound low from first window)
    (e : ready ≡ cond (ltb urgency low) (begun window) window) where
  goes_on : low ≤ urgency → ready ≡ window
  goes_on l = e ∙ rw (le-ltb urgency low l)

  begins : urgency < low → ready ≡ begun window
  begins l = e ∙ rw (lt-ltb urgency low l)

  pub turned-end : ready.hi ≡ window.hi
  turned-end = by_order low urgency (λ l. ap (λ (w : Window). w.hi) (goes_on l)) (λ l. ap (λ (w : Window). w.hi) (begins l))

  pub turned_swept : WindowIn columns bound (min low urgency) from first ready
  turned_swept =
      by_order low urgency
      (λ l. rw (goes_on l, min-eq_left l) h)
      (λ l.
      rw (begins l)
      (swept_none from first window.hi (omega (arith, h.after, h.inside))))
