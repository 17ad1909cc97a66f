-- By what is written: the open range and the totals, or nothing.
use Rattle.decimal.specs.Laws.{then}
use Rattle.rescue_chunk.proofs.last_lines.Goals as goal

pub returns-in-Entries-clause-written : goal.returns-in-Entries-clause-written
returns-in-Entries-clause-written c =
    rw c.in-Entries.is (then (rw c.in-Entries.is at c.write_range-p.ensures.written) (rw c.tally_range.ensures at c.write_totals.ensures.written))
