-- A turn of the loop stores one line; the lines of the entries that are left are left to store, and the buffer has 42 bytes for each.
use Rattle.std.proofs.Common.{◌+◌, ◌*◌, ◌≤◌, length}
use Rattle.model.specs.WhyText.{holding_lines}
use Rattle.history.specs.Bridge.{holdings_from}
use Rattle.why_text.specs.Laws.{Lines}
use Rattle.why_text.proofs.write_holdings.Given as goal

abbrev pub invariant-loop-entry : goal.invariant-loop-entry
invariant-loop-entry l =
    let es = l.entry-iterator.a.rest.now in
    let rs = l.entry-iterator.b.rest.now in
    record {
      paired : length es ≤ length rs;
      room : l.p + 42 * length es ≤ l.at + 42 * l.count;
      lines : Lines l.fn.out l.at (holding_lines (holdings_from l.count l.fn.entries l.fn.records)) l.out l.p es rs;
    }
