-- `meets` meets its contract. Assumes nothing.
use Rattle.recorders.proofs.Priorities.{each_is_meeting}
use Rattle.recorders.proofs.priority.meets.Goals as goal

pub returns : goal.returns
returns c = each_is_meeting c.args.from c.args.to c.args.ready c.args.done
