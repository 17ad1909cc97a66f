-- `history::History::after` meets its contract: the case and the puts by a record more.
use Rattle.history.specs.Laws.{knows_next}
use Rattle.history.proofs.History.after.Goals as goal

pub returns : goal.returns
returns c = knows_next c.args.self _ c.args.n c.args.up c.args.held c.turned.ensures c.moved.ensures
