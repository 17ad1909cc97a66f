-- `fifos::Fifos::take` meets its contract: one FIFO less its oldest entry, or, where it is empty, all as they were.
use Rattle.fifos.specs.Laws.{taken_none}
use Rattle.fifos.proofs.Fifos.take.Goals as goal

pub returns-then-fifo-eq0 : goal.returns-then-fifo-eq0
returns-then-fifo-eq0 c = taken_none c.args.self c.args.i c.if-fifo-eq0.true
