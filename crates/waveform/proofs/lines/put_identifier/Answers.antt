-- `put_identifier` leaves as much of the identifier as fits. Assumes nothing.
use Prim.Native.Nat.{ℕ, suc, ◌+◌}
use Rattle.dumps.specs.Identifiers.{identifier_of}
use Rattle.laws.proofs.Clipped.{put_none, put-counted}
use mathlib.Core.List.{[], ◌∷◌}
use mathlib.Core.Path.{◌≡◌, ap}
use native.Mathlib.Omega.{arith}
use Rattle.waveform.proofs.lines.put_identifier.Goals as goal

byte-is : (u : ℕ) → identifier_of (suc u) ≡ (33 + u) ∷ []
unfolding identifier_of
byte-is u =
    let code : 32 + suc u ≡ 33 + u = omega arith in
    ap (λ (n : ℕ). n ∷ []) code

pub returns : goal.returns
returns c =
    rw (byte-is c.args.u) (put-counted ((33 + c.args.u) ∷ []) (put_none c.args.out.now c.args.at) c.put_bytes.ensures)
