-- `mailbox_access::read_data` meets its contract: what the mailboxes tell, and nothing changes.
use Rattle.card.specs.Bridge.{state_as}
use Rattle.card.specs.Laws.{unchanged}
use Rattle.mailbox_access.proofs.read_data.Goals as goal

pub returns : goal.returns
unfolding state_as
returns c = rw c.done.ensures (unchanged _ _ _ _ c.args.card c.read.ensures c.label.ensures)
