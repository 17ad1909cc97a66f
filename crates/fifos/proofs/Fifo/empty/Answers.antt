-- `fifos::Fifo::empty` meets its contract by computation.
use Rattle.std.proofs.Common.{refl}
use Rattle.fifos.specs.Bridge.{entries_as}
use Rattle.fifos.proofs.Fifo.empty.Goals as goal

pub returns : goal.returns
unfolding entries_as
returns c = refl
