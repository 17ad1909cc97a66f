-- `card::fresh` meets its contract: each branch is that of the definition.
use Rattle.settings.specs.Bridge.{settings_as}
use Rattle.card.specs.Laws.{fresh_passed, fresh_failed}
use Rattle.card.proofs.fresh.Goals as goal

pub returns-then-pass : goal.returns-then-pass
returns-then-pass c = fresh_passed (settings_as c.args.settings) _ c.pass.ensures _ c.if-pass.true c.fresh.ensures

pub returns : goal.returns
returns c = fresh_failed (settings_as c.args.settings) _ c.pass.ensures _ _ c.if-pass.false c.zero.ensures c.fresh-card.ensures
