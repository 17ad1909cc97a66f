-- `fifos::Fifos::entries` meets its contract: as many are held as are counted.
use Rattle.fifos.specs.Laws.{entries_at, length_entries}
use Rattle.fifos.proofs.Fifos.entries.Goals as goal

pub places-requires : goal.places-requires
places-requires c = rw (entries_at c.args.self.each c.args.i, length_entries) at c.requires.i_len_bound
