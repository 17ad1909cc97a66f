-- `interrupt_access::read_register` meets its contract: in a sound record the register as read fits 32 bits.
use Rattle.std.proofs.Common.{refl}
use Rattle.model.specs.Sides.{side_of}
use Rattle.events.specs.Bridge.{register_as}
use Rattle.card.specs.Laws.{unchanged}
use Rattle.interrupt_access.specs.Laws.{value_read, value_fits}
use Rattle.interrupt_access.proofs.read_register.Goals as goal

pub value-requires : goal.value-requires
value-requires c =
    let a = c.args in
    value_fits a.card (side_of a.side) (register_as c.register-register.result) _ c.requires c.register-register.ensures c.live.ensures

pub returns : goal.returns
returns c =
    let a = c.args in
    rw c.done.ensures (unchanged _ 0 _ 0 a.card (value_read a.card (side_of a.side) (register_as c.register-register.result) _ c.register-register.ensures c.live.ensures _ c.value.ensures) refl)
