-- `write_bytes` leaves the bytes at the place, which has room for them all. Assumes nothing.
use Prim.Native.Nat.{ℕ, ◌+◌}
use Rattle.laws.proofs.Clipped.{clipped_fits}
use mathlib.Core.Path.{ap, ◌∙◌}
use Rattle.report.proofs.columns.write_bytes.Goals as goal

pub returns : goal.returns
returns c =
    let put = c.put_bytes.ensures in
    (ap (λ (n : ℕ). c.args.at + n) put.0, put.1 ∙ clipped_fits c.args.out.now c.args.at c.args.bytes.now c.requires)
