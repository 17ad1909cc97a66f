-- `history::History::told` meets its contract: with no put the case is the answer, else the entries held.
use Rattle.history.specs.Laws.{told_case, told_held}
use Rattle.history.proofs.History.told.Goals as goal

pub returns-then-held-eq0 : goal.returns-then-held-eq0
returns-then-held-eq0 c = λ r k e. told_case c.args.self r c.args.entries c.places-records.result k c.if-held-eq0.true e c.places-records.ensures

pub returns-else-held-eq0 : goal.returns-else-held-eq0
returns-else-held-eq0 c = λ r k e. told_held c.args.self r c.args.entries c.places-records.result k c.if-held-eq0.false e c.places-records.ensures
