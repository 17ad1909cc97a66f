-- `dma_access::write` meets its contract: the register written by itself is the register written in the card.
use Rattle.model.specs.Sides.{side_of}
use Rattle.dma.specs.Bridge.{programmed_as}
use Rattle.dma_access.specs.Laws.{register_written_lem}
use Rattle.dma_access.proofs.write.Goals as goal

pub returns : goal.returns
returns c =
    let a = c.args in
    λ m w. rw c.done.ensures (register_written_lem a.card m w (side_of a.side) a.dword (programmed_as a.which) _ _ c.program.ensures c.with_dma.ensures)
