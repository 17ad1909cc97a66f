-- `dma_access::write_control` meets its contract: refused as the start is, and nothing stored; done, and DMACTL stores what it stores.
use Rattle.model.specs.Sides.{side_of}
use Rattle.dma_access.specs.Laws.{start_refused, start_done}
use Rattle.dma_access.proofs.write_control.Goals as goal

pub returns-in-Err : goal.returns-in-Err
returns-in-Err c =
    let a = c.args in
    λ m w. rw c.refused.ensures (start_refused a.card m w (side_of a.side) a.dword (c.start-started.ensures m w) _ c.in-Err.is)

pub returns-in-Ok : goal.returns-in-Ok
returns-in-Ok c =
    let a = c.args in
    λ m w. rw (c.done.ensures, c.in-Ok.is)
    (start_done a.card m w (side_of a.side) a.dword (c.start-started.ensures m w) _ _ _ c.in-Ok.is c.write_control.ensures c.with_dma-after.ensures)
