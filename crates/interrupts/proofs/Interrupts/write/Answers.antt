-- `interrupts::Interrupts::write` meets its contract: one side's register written.
use Rattle.std.proofs.Common.{◌∙◌, ◌/◌}
use Rattle.model.specs.Sides.{side_of}
use Rattle.model.specs.Events.{common, enable_mask}
use Rattle.model.specs.Interrupts.{cleared_in, enables_in}
use Rattle.interrupts.specs.Laws.{written_back, one_by_one}
use Rattle.interrupts.proofs.Interrupts.write.Goals as goal

pub returns : goal.returns
returns c =
    let a = c.args in
    let side = side_of a.side in
    let enables = common (a.value / 65536) (enable_mask side) in
    written_back side (λ q. cleared_in a.value (enables_in enables q)) _ _ _ _ c.register.ensures c.write.ensures c.with.ensures ∙ one_by_one side (cleared_in a.value) (enables_in enables) _
