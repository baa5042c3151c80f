-- `put_wire` leaves as much of a wire's declaration as fits. Assumes nothing.
use Prim.Native.Nat.{◌+◌, ◌≤◌}
use Rattle.dumps.proofs.LineTexts.{wire_text, wire_length}
use Rattle.dumps.specs.Claims.{max_waveform}
use Rattle.dumps.specs.Dumps.{name_of}
use Rattle.laws.proofs.Clipped.{put_none, put_then, put-counted}
use Rattle.laws.specs.Words.{ascii}
use lib.ListN.{length}
use native.Mathlib.Omega.{arith}
use Rattle.waveform.proofs.lines.put_wire.Goals as goal

pub put_identifier-space-requires : goal.put_identifier-space-requires
put_identifier-space-requires c =
    (c.requires.0, omega (arith, c.requires.1, wire_length c.args.u c.args.chain c.args.number, c.put_bytes.ensures.0))

pub overflow_add-name : goal.overflow_add-name
overflow_add-name c =
    let name_room : c.put_identifier-space.result + c.put_bytes-2.result + length (name_of c.args.chain c.args.number) + 6 ≤ max_waveform = omega (arith, c.requires.1, wire_length c.args.u c.args.chain c.args.number, c.put_bytes.ensures.0, c.put_identifier-space.ensures.place, c.put_bytes-2.ensures.0) in
    omega (arith, name_room)

pub put_name-end-requires : goal.put_name-end-requires
put_name-end-requires c =
    let name_room : c.put_identifier-space.result + c.put_bytes-2.result + length (name_of c.args.chain c.args.number) + 6 ≤ max_waveform = omega (arith, c.requires.1, wire_length c.args.u c.args.chain c.args.number, c.put_bytes.ensures.0, c.put_identifier-space.ensures.place, c.put_bytes-2.ensures.0) in
    omega (arith, name_room)

pub overflow_add-result : goal.overflow_add-result
overflow_add-result c =
    let name_room : c.put_identifier-space.result + c.put_bytes-2.result + length (name_of c.args.chain c.args.number) + 6 ≤ max_waveform = omega (arith, c.requires.1, wire_length c.args.u c.args.chain c.args.number, c.put_bytes.ensures.0, c.put_identifier-space.ensures.place, c.put_bytes-2.ensures.0) in
    omega (arith, name_room, c.put_name-end.ensures.place, c.put_bytes-3.ensures.0)

pub returns : goal.returns
returns c =
    let command = put-counted (ascii "$var wire 1 ") (put_none c.args.out.now c.args.at) c.put_bytes.ensures in
    let identifier = put_then command c.put_identifier-space.ensures in
    let space = put-counted (ascii " ") identifier c.put_bytes-2.ensures in
    let name = put_then space c.put_name-end.ensures in
    rw (wire_text c.args.u c.args.chain c.args.number) (put-counted (ascii " $end\n") name c.put_bytes-3.ensures)
