-- `interrupt_access::raise_external` meets its contract: the event set raised is that of event 4.
use Rattle.std.proofs.Common.{refl}
use Rattle.model.specs.Sides.{host}
use Rattle.model.specs.Events.{external, mask}
use Rattle.model.specs.Interrupts.{on_register}
use Rattle.events.specs.Bridge.{raised_all}
use Rattle.interrupt_access.specs.Laws.{registers_changed}
use Rattle.interrupt_access.proofs.raise_external.Goals as goal

pub returns : goal.returns
returns c =
    rw c.done.ensures (record {
      answer = refl;
      state = registers_changed c.args.card _ c.raise-interrupts.result (on_register host (raised_all (mask external))) c.raise-interrupts.ensures c.with_interrupts.ensures;
    })
