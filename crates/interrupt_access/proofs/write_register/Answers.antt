-- `interrupt_access::write_register` meets its contract: one side's register, written.
use Rattle.std.proofs.Common.{refl, ◌/◌}
use Rattle.model.specs.Sides.{side_of}
use Rattle.model.specs.Events.{common, enable_mask}
use Rattle.model.specs.Interrupts.{on_register, cleared_in, enables_in}
use Rattle.interrupt_access.specs.Laws.{registers_changed}
use Rattle.interrupt_access.proofs.write_register.Goals as goal

pub returns : goal.returns
returns c =
    let a = c.args in
    let side = side_of a.side in
    let enables = common (a.value / 65536) (enable_mask side) in
    rw c.done.ensures (record {
      answer = refl;
      state = registers_changed a.card _ c.write-interrupts.result (λ i. on_register side (cleared_in a.value) (on_register side (enables_in enables) i)) c.write-interrupts.ensures c.with_interrupts.ensures;
    })
