-- `dma_access::read_control` meets its contract: the value is that of DMACTL in the card.
use Rattle.model.specs.Dma.{control_value}
use Rattle.dma_access.specs.Laws.{shown_plainly}
use Rattle.dma_access.proofs.read_control.Goals as goal

pub returns : goal.returns
returns c =
    let a = c.args in
    λ m w. shown_plainly a.card m w a.dword _ control_value c.control.ensures (c.told.ensures m w)
