-- `dma_access::start` meets its contract: the fields are those of the transfer that is programmed.
use Rattle.model.specs.Sides.{side_of}
use Rattle.model.specs.Accesses as model
use Rattle.transfer.specs.Bridge.{request_as}
use Rattle.card.specs.Laws.{did_settles}
use Rattle.dma_access.specs.Laws.{start_programmed}
use Rattle.dma_access.proofs.start.Goals as goal

pub returns : goal.returns
returns c =
    let a = c.args in
    λ m w. start_programmed a.card m w (side_of a.side) a.dword (request_as c.request-request.result) c.request-request.ensures (did_settles model.start a.card _ m w (c.start.ensures m w))
