-- `fifos::Fifos::put` meets its contract: one FIFO with an entry more, or, where it has no room, all as they were.
use Rattle.std.proofs.Common.{arith}
use Rattle.fifos.specs.Laws.{put_kept, put_lost}
use Rattle.fifos.proofs.Fifos.put.Goals as goal

pub returns-then-fifo-lt-ROOM : goal.returns-then-fifo-lt-ROOM
returns-then-fifo-lt-ROOM c = put_kept c.args.self c.args.i c.args.entry _ (omega arith) c.if-fifo-lt-ROOM.true c.with.ensures

pub returns-else-fifo-lt-ROOM : goal.returns-else-fifo-lt-ROOM
returns-else-fifo-lt-ROOM c = put_lost c.args.self c.args.i c.args.entry c.if-fifo-lt-ROOM.false
