-- The code's transfer in the model's words.
use Rattle.model.specs.Transfer as model
use Rattle.model.specs.Transfer.{idle, running}
use Rattle.transfer.specs.declared.Request.{Request}
use Rattle.transfer.specs.declared.Transfer.{Transfer}
use Rattle.transfer.specs.declared.Transfer.TheVariants.{Idle, Running}

abbrev pub request_as : Request → model.Request
request_as t = record { direction = t.direction; shared = t.shared; pci = t.pci; size = t.size }

abbrev pub transfer_as : Transfer → model.Transfer
transfer_as Idle = idle
transfer_as (Running t moved) = running (request_as t) moved
