-- `standing::start` meets its contract: the replay's settings pass, and the card is their fresh one.
use Rattle.standing.specs.Laws.{settings_fit, at_start}
use Rattle.standing.proofs.start.Goals as goal

pub unwrap-card-requires : goal.unwrap-card-requires
unwrap-card-requires c = settings_fit c.fresh.result c.fresh.ensures

pub returns : goal.returns
returns c = at_start c.unwrap-card.result (rw c.unwrap-card.ensures at c.fresh.ensures)
