-- `dma_access::read` meets its contract: the value is that of the register in the card.
use Rattle.model.specs.Dma.{shown}
use Rattle.dma.specs.Bridge.{programmed_as}
use Rattle.dma_access.specs.Laws.{shown_plainly}
use Rattle.dma_access.proofs.read.Goals as goal

pub returns : goal.returns
returns c =
    let a = c.args in
    λ m w. shown_plainly a.card m w a.dword _ (shown (programmed_as a.which)) c.shown.ensures (c.told.ensures m w)
