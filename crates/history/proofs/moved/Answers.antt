-- `history::moved` meets its contract: the tests of its branches are those of the definition, by the count.
use Rattle.std.proofs.Common.{lt-ltb, le-ltb, ne_eqb}
use Rattle.fifos.specs.Laws.{length_entries}
use Rattle.history.proofs.moved.Goals as goal

pub returns-then-puts-held : goal.returns-then-puts-held
returns-then-puts-held c =
    let a = c.args in
    rw (length_entries a.puts, lt-ltb a.puts.count a.held c.if-puts-held.true, c.with.ensures)

pub returns-then-held-puts : goal.returns-then-held-puts
returns-then-held-puts c =
    let a = c.args in
    rw (length_entries a.puts, le-ltb a.puts.count a.held c.if-puts-held.false, ne_eqb a.held 0 c.if-held-eq0.false, lt-ltb a.held a.puts.count c.if-held-puts.true, c.rest.ensures)

pub returns : goal.returns
returns c =
    let a = c.args in
    rw (length_entries a.puts, le-ltb a.puts.count a.held c.if-puts-held.false, ne_eqb a.held 0 c.if-held-eq0.false, le-ltb a.held a.puts.count c.if-held-puts.false)
