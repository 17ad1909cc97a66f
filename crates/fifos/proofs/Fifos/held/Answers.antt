-- `fifos::Fifos::held` meets its contract: as many are held as are counted.
use Rattle.fifos.specs.Laws.{entries_at, length_entries}
use Rattle.fifos.proofs.Fifos.held.Goals as goal

pub returns : goal.returns
returns c = rw (entries_at c.args.self.each c.args.i, length_entries)
