-- `interrupt_access::line_level` meets its contract: active or not, as the register with its live bits tells.
use Rattle.std.proofs.Common.{◌≡◌, refl, Bool, true, false, ℕ}
use Rattle.std.specs.Prelude.{if◌then◌else◌}
use mir.Val.{bool_byte}
use Rattle.model.specs.Sides.{side_of}
use Rattle.events.specs.Bridge.{register_as}
use Rattle.card.specs.Laws.{unchanged}
use Rattle.interrupt_access.specs.Laws.{line_read}
use Rattle.interrupt_access.proofs.line_level.Goals as goal

-- what `b as u32` is
as_number : (b : Bool) → ◌≡◌ {A = ℕ} (bool_byte b) (if b then 1 else 0)
as_number true = refl
as_number false = refl

pub returns : goal.returns
returns c =
    let a = c.args in
    rw (c.done.ensures, as_number c.line.result) (unchanged _ 0 _ 0 a.card (line_read a.card (side_of a.side) (register_as c.register-register.result) _ c.register-register.ensures c.live.ensures _ _ c.line.ensures refl) refl)
