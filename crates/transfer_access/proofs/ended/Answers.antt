-- `transfer_access::ended` meets its contract: the set of events raised has the one event.
use Rattle.transfer_access.specs.Laws.{ended_by_lem}
use Rattle.transfer_access.proofs.ended.Goals as goal

pub returns : goal.returns
returns c = λ e h. rw c.done.ensures (ended_by_lem _ _ _ _ e _ _ _ h c.with_transfer.ensures c.raise_both.ensures c.with_interrupts.ensures)
