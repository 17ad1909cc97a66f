-- `fifo_access::take_entry` meets its contract: the FIFOs as the take left them, and what it gave.
use Rattle.fifo_access.specs.Laws.{taken_some, taken_none}
use Rattle.fifo_access.proofs.take_entry.Goals as goal

pub returns-in-Some : goal.returns-in-Some
returns-in-Some c = rw c.done.ensures (taken_some c.args.card c.args.i c.take.ensures _ _ _ c.in-Some.is c.held-held.ensures c.with_fifos.ensures)

pub returns-in-None : goal.returns-in-None
returns-in-None c = rw c.done-in-None.ensures (taken_none c.args.card c.args.i c.take.ensures c.in-None.is)
