-- `why::look` meets its contract: a live bit by its FIFO, another by the register.
use Rattle.std.proofs.Common.{sym, ◌∙◌}
use Rattle.events.specs.Bridge.{register_as}
use Rattle.why.specs.Laws.{live_shown, stored_shown}
use Rattle.why.proofs.look.Goals as goal

pub returns-then-is_live : goal.returns-then-is_live
returns-then-is_live c =
    let a = c.args in
    live_shown a.card a.position a.side _ _ (sym c.is_live.ensures ∙ c.if-is_live.true) c.fifo_of.ensures.0 c.held-held.ensures

pub returns : goal.returns
returns c =
    let a = c.args in
    stored_shown a.card a.position a.side _ (register_as c.register-register.result) (sym c.is_live.ensures ∙ c.if-is_live.false) c.register-register.ensures c.has.ensures
