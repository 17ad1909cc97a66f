-- `phases::read_phase` meets its contract: the lanes are those of the pins, or all.
use Rattle.std.proofs.Common.{sym, ◌∙◌}
use Rattle.phases.specs.Laws.{whole_read}
use Rattle.phases.proofs.read_phase.Goals as goal

pub returns-then-whole : goal.returns-then-whole
returns-then-whole c =
    let a = c.args in
    c.read_dword.ensures ∙ whole_read a.mode a.phase.pins a.phase.dq _ _ (sym c.whole.ensures ∙ c.if-whole.true)
