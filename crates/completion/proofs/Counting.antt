-- What the jobs of a table count in the pair of a target: at most their most times. Assumes nothing.
--   lent_by   the code's table as the theory has it
--   counts    what each job counts
use Prim.Native.Nat.{ℕ, ◌*◌, ◌≤◌, ◌<◌}
use mathlib.Core.Path.{◌≡◌}
use mathlib.Core.List.{List}
use native.Mathlib.Omega.{arith}
use lib.ListN.{get_or}
use Rattle.jobs.specs.Limits.{max_time}
use Rattle.theory.specs.Table.{Table as TheoryTable}
use Rattle.theory.specs.Bounds.{interference}
use Rattle.theory.proofs.Columns.{lent}
use Rattle.theory.proofs.Pairs.{delay_limit}
use Rattle.theory.proofs.Weights.{spanned, weight_le}
use Rattle.completion.specs.declared.table.Table.{Table}
use Rattle.completion.specs.declared.target.Target.{Target}

abbrev pub lent_by : Table → TheoryTable
lent_by t = lent t.count t.columns

abbrev pub counts : Table → List ℕ → Target → ℕ → ℕ
counts t bound target = spanned t.columns bound target.from target.to

pub counts_limit : (t : Table) (bound : List ℕ) (target : Target) (i : ℕ) → i < t.count → counts t bound target i ≤ max_time
counts_limit t bound target i l =
    omega (arith, t.fit.mosts i l, weight_le target.from target.to ((lent_by t).most i) ((lent_by t).earliest i) (get_or bound i 0))

-- the interference on a pair is small
pub delay_small : (t : Table) (bound : List ℕ) (chain low from to delay : ℕ) → delay ≡ interference (lent_by t) chain low (spanned t.columns bound from to) → delay ≤ t.count * max_time
delay_small t bound chain low from to delay e = delay_limit t.count t.columns bound t.fit.mosts chain low from to delay e
