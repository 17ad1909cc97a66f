-- What the code's offsets name, in the model's words.
use Rattle.model.specs.Sides.{side_of}
use Rattle.model.specs.RegisterMap as model
use Rattle.model.specs.RegisterMap.{port, dma_register, dmactl, arbutil, interrupts_of, mail_from, shared_at, unmodelled}
use Rattle.dma.specs.Bridge.{programmed_as}
use Rattle.register_map.specs.declared.Resource.{Resource}
use Rattle.register_map.specs.declared.Resource.TheVariants.{Port, DmaRegister, Dmactl, Arbutil, InterruptsOf, MailFrom, SharedAt, Unmodelled}

abbrev pub resource_as : Resource → model.Resource
resource_as (Port taken put) = port taken put
resource_as (DmaRegister p) = dma_register (programmed_as p)
resource_as Dmactl = dmactl
resource_as Arbutil = arbutil
resource_as (InterruptsOf side) = interrupts_of (side_of side)
resource_as (MailFrom side) = mail_from (side_of side)
resource_as (SharedAt a) = shared_at a
resource_as Unmodelled = unmodelled
