-- `why::entries` meets its contract: those of the FIFO that the position follows.
use Rattle.std.proofs.Common.{sym, ◌∙◌}
use Rattle.why.specs.Laws.{live_entries, at_most_32}
use Rattle.why.proofs.entries.Goals as goal

pub entries-requires-clause-i_len_bound : goal.entries-requires-clause-i_len_bound
entries-requires-clause-i_len_bound c = at_most_32 c.args.card c.args.position _ c.requires

pub returns-then-is_live : goal.returns-then-is_live
returns-then-is_live c = live_entries c.args.card c.args.position _ _ (sym c.is_live.ensures ∙ c.if-is_live.true) c.fifo_of.ensures.0 c.entries.ensures
