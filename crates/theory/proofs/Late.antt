-- Bounds so late that each job counts: with them a round works out CJA, and the scan the interference of ERT. Assumes a table in its limits.
use Prim.Native.Nat.{ℕ, suc, ◌<◌}
use mathlib.Core.Path.{◌≡◌, refl, ◌∙◌}
use mathlib.Core.Bool.{true}
use mathlib.Core.List.{List}
use native.Mathlib.Omega.{arith}
use lib.ListN.{get_or, replicate, get_or-replicate}
use borrow.Author.Tests.{lt-ltb}
use Rattle.laws.proofs.Tabulate.{tabulate_ext}
use Rattle.jobs.specs.Limits.{max_jobs}
use Rattle.theory.specs.Table.{Table}
use Rattle.theory.specs.Bounds.{interference, interference_at, largest_pair, cja_with, cja, bound_limit, overlap, round}
use Rattle.theory.proofs.Interference.{interference-same}
use Rattle.theory.proofs.Overlaps.{overlap_by}
use Rattle.theory.proofs.Monotone.{pairs_mono}
use Rattle.theory.proofs.Columns.{lent, Fit}
use Rattle.theory.proofs.Weights.{weight_of, spanned}
use Rattle.theory.proofs.RisingBounds.{Upwards}
use Rattle.theory.proofs.Rules.{always}

abbrev pub late : List ℕ
late = replicate max_jobs bound_limit

late_at : (u : ℕ) → u < max_jobs → get_or late u 0 ≡ bound_limit
late_at u l = get_or-replicate max_jobs u bound_limit 0 l

module _ (t : Table) (fit : Fit t) where
  pub late-overlap : (k j u : ℕ) → k < t.count → j < t.count → u < t.count → overlap t late k j u ≡ true
  late-overlap k j u kl jl ul =
      overlap_by t late k j u
      (omega (arith, late_at u (omega (arith, fit.few)), fit.early k kl))
      (omega (arith, late_at j (omega (arith, fit.few)), fit.early u ul))

  pub late_rises : Upwards t (λ u. get_or late u 0)
  late_rises i l c = omega (arith, late_at i (omega (arith, fit.few)), late_at (suc i) (omega (arith, fit.few)))

  pub round-late : round t late ≡ cja t
  unfolding round cja cja_with
  round-late =
      tabulate_ext 0 t.count (λ j. largest_pair t (overlap t late) j (suc j)) (λ j. largest_pair t always j (suc j)) (λ j z l.
      omega (
        arith,
        pairs_mono t (overlap t late) always j (λ k u kj c ul ne v. refl),
        pairs_mono t always (overlap t late) j (λ k u kj c ul ne v. late-overlap k j u (omega arith) (omega arith) ul),
      ))

module _ (count : ℕ) (columns : List (List ℕ)) (fit : Fit (lent count columns)) where
  abbrev t : Table
  t = lent count columns

  pub weight-late : (u : ℕ) → u < count → spanned columns late 0 bound_limit u ≡ t.most u
  unfolding weight_of
  weight-late u l =
      rw (lt-ltb 0 (get_or late u 0) (omega (arith, late_at u (omega (arith, fit.few)))), lt-ltb (t.earliest u) bound_limit (omega (arith, fit.early u l)))

  pub delay_late : (i delay : ℕ) → delay ≡ interference t (t.chain i) (t.urgency i) (spanned columns late 0 bound_limit) → delay ≡ interference_at t i
  unfolding interference_at
  delay_late i delay e = e ∙ interference-same t (t.chain i) (t.urgency i) (spanned columns late 0 bound_limit) t.most (λ u ul ne. weight-late u ul)
