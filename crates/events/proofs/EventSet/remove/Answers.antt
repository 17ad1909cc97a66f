-- `events::EventSet::remove` meets its contract: the law of `and_not` at 32 bits.
use Rattle.std.proofs.Common.{rules}
use Rattle.events.specs.Laws.{and_not}
use Rattle.events.proofs.EventSet.remove.Goals as goal

pub returns : goal.returns
returns c = and_not 32 c.args.self.0 c.args.events.0 (search rules) (search rules)
