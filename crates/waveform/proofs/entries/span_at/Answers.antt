-- `span_at` answers the span of an entry. Assumes nothing.
use Rattle.waveform.proofs.Spans.{span_read, span_place}
use Rattle.waveform.proofs.entries.span_at.Goals as goal

pub returns : goal.returns
returns c =
    let numbers = c.args.numbers.now in
    let is = c.place_of-at.ensures in
    (span_read c.args.set c.requires.0 numbers c.args.n _ is, span_place c.args.set c.requires.0 numbers c.args.n _ is)
