-- `first_place` answers the place of the job that runs from time 0 on. Assumes nothing.
use Rattle.jobs.specs.Jobs.{jobs_of}
use Rattle.waveform.proofs.Spans.{first_none, first_zero, first_later}
use Rattle.waveform.proofs.entries.first_place.Goals as goal

pub returns-then-entries-eq0 : goal.returns-then-entries-eq0
returns-then-entries-eq0 c = first_none (jobs_of c.args.set) c.args.numbers.now c.args.entries c.if-entries-eq0.true

pub returns-then-span-eq0 : goal.returns-then-span-eq0
returns-then-span-eq0 c =
    first_zero (jobs_of c.args.set) c.args.numbers.now c.span_at-span.result c.span_at-span.ensures.0 c.args.entries c.if-entries-eq0.false c.if-span-eq0.true

pub returns : goal.returns
returns c =
    first_later (jobs_of c.args.set) c.args.numbers.now c.span_at-span.result c.span_at-span.ensures.0 c.args.entries c.if-entries-eq0.false c.if-span-eq0.false
