-- The code's DMA registers in the model's words.
use Rattle.model.specs.Dma as model
use Rattle.model.specs.Dma.{dmalbase, dmahbase, dmasize}
use Rattle.arbitration.specs.Bridge.{pair_as}
use Rattle.dma.specs.declared.Dma.{Dma}
use Rattle.dma.specs.declared.Programmed.{Programmed}
use Rattle.dma.specs.declared.Programmed.TheVariants.{Dmalbase, Dmahbase, Dmasize}

abbrev pub programmed_as : Programmed → model.Programmed
programmed_as Dmalbase = dmalbase
programmed_as Dmahbase = dmahbase
programmed_as Dmasize = dmasize

abbrev pub dma_as : Dma → model.Dma
dma_as r = record { shared = r.shared; pci = r.pci; size = r.size; owner = pair_as r.owner; inhibit = r.inhibit; outward = r.outward }
