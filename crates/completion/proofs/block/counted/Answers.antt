-- `counted` answers what the job counts. Assumes nothing.
use Rattle.completion.proofs.block.counted.Goals as goal

pub returns : goal.returns
returns c = rw (c.weight.ensures, c.most.ensures, c.earliest.ensures)
