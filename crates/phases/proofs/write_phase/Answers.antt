-- `phases::write_phase` meets its contract: the lanes and the dword are those of the pins, or the whole dword.
use Rattle.std.proofs.Common.{sym, ◌∙◌}
use Rattle.phases.specs.Laws.{whole_written}
use Rattle.phases.proofs.write_phase.Goals as goal

pub returns-then-whole : goal.returns-then-whole
returns-then-whole c = c.write_dword.ensures ∙ whole_written _ _ _ _ _ (sym c.whole.ensures ∙ c.if-whole.true)
