-- `interrupt_access::live` meets its contract: either bit is set while its FIFO holds an entry.
use Rattle.interrupt_access.specs.Laws.{live_is}
use Rattle.interrupt_access.proofs.live.Goals as goal

pub returns : goal.returns
returns c = live_is c.args.card _ _ _ _ _ c.insert.ensures c.only_if-inbound.ensures c.only_if-outbound.ensures c.is_empty.ensures c.is_empty-2.ensures
