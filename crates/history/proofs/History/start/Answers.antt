-- `history::History::start` meets its contract: no case but never, and no put.
use Rattle.history.specs.Bridge.{never}
use Rattle.history.proofs.History.start.Goals as goal

pub returns : goal.returns
returns c = record { says = never; puts = c.empty.ensures }
