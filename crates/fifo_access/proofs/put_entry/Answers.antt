-- `fifo_access::put_entry` meets its contract: kept where there is room, else the overflow is raised in both registers.
use Rattle.model.specs.Sides.{side_of}
use Rattle.fifo_access.specs.Laws.{put_kept, put_lost}
use Rattle.fifo_access.proofs.put_entry.Goals as goal

pub returns-in-Some : goal.returns-in-Some
returns-in-Some c =
    let a = c.args in
    rw c.done.ensures (put_kept a.card a.i (side_of a.side) a.entry c.put.ensures _ _ _ c.in-Some.is c.held.ensures c.with_fifos.ensures)

pub returns-in-None : goal.returns-in-None
returns-in-None c =
    let a = c.args in
    rw c.done-in-None.ensures (put_lost a.card a.i (side_of a.side) a.entry c.put.ensures _ _ c.raise_both-interrupts.result c.in-None.is c.lost_event.ensures c.raise_both-interrupts.ensures c.with_interrupts.ensures)
