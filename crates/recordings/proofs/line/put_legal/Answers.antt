-- `put_legal` leaves as much of its line as fits. Assumes nothing.
use Rattle.laws.proofs.Clipped.{put_none, put-counted}
use Rattle.laws.specs.Words.{ascii}
use Rattle.recordings.proofs.line.put_legal.Goals as goal

pub returns-then-legal : goal.returns-then-legal
returns-then-legal c =
    let name = put-counted c.args.name.now (put_none c.args.out.now c.args.at) c.put_bytes.ensures in
    rw c.if-legal.true (put-counted (ascii ",legal\r\n") name c.put_bytes-then-legal.ensures)

pub returns : goal.returns
returns c =
    let name = put-counted c.args.name.now (put_none c.args.out.now c.args.at) c.put_bytes.ensures in
    rw c.if-legal.false (put-counted (ascii ",illegal\r\n") name c.put_bytes-2.ensures)
