-- The order of rows, taken apart and put together: a first row and the rest, and one row more at the end. Assumes nothing.
use Prim.Native.Nat.{◌<◌}
use mathlib.Core.Path.{◌≡◌, refl}
use mathlib.Core.Bool.{true}
use mathlib.Core.List.{List, [], ◌∷◌, ◌++◌}
use native.Mathlib.Omega.{arith}
use lib.ListN.{length}
use borrow.Author.Tests.{ltb-true, lt-ltb}
use Rattle.laws.specs.Words.{last_of}
use Rattle.laws.proofs.Tests.{and_parts, and_both}
use Rattle.recording.specs.declared.row.Row.{Row}
use Rattle.recording.specs.Rows.{no_row, follows, next_follows, in_order}

pub order_parts : (r : Row) (rs : List Row) → in_order (r ∷ rs) ≡ true → (r.from < r.to) × (next_follows r rs ≡ true) × (in_order rs ≡ true)
unfolding in_order
order_parts r rs h =
    let all = and_parts h in
    let own = and_parts all.0 in
    (ltb-true r.from r.to own.0, own.1, all.1)

pub order_more : (r : Row) (rs : List Row) → r.from < r.to → next_follows r rs ≡ true → in_order rs ≡ true → in_order (r ∷ rs) ≡ true
unfolding in_order
order_more r rs l f h = and_both _ _ (and_both _ _ (lt-ltb r.from r.to l) f) h

-- ---- one row more at the end
order_one : (r : Row) → r.from < r.to → in_order (r ∷ []) ≡ true
unfolding next_follows in_order
order_one r l = order_more r [] l refl refl

pub order_snoc : (rows : List Row) (r : Row) → in_order rows ≡ true → r.from < r.to → (0 < length rows → follows (last_of no_row rows) r ≡ true)
    → in_order (rows ++ (r ∷ [])) ≡ true
unfolding next_follows last_of
order_snoc [] r h l f = order_one r l
order_snoc (q ∷ []) r h l f = order_more q (r ∷ []) (order_parts q [] h).0 (f (omega arith)) (order_one r l)
order_snoc (q ∷ p ∷ rs) r h l f =
    let all = order_parts q (p ∷ rs) h in
    order_more q ((p ∷ rs) ++ (r ∷ [])) all.0 all.1 (order_snoc (p ∷ rs) r all.2 l (λ some. f (omega arith)))
