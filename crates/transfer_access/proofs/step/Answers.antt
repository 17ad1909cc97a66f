-- `transfer_access::step` meets its contract: refused by its checks, or advanced, since a fit card with a running transfer can step.
use Rattle.std.proofs.Common.{refl}
use Rattle.access.specs.Laws.{passed_number}
use Rattle.transfer_access.specs.Laws.{step_refused, step_idle, step_fits, step_done}
use Rattle.transfer_access.proofs.step.Goals as goal

pub returns-in-Err : goal.returns-in-Err
returns-in-Err c = rw c.refused.ensures (step_refused _ _ _ _ _ _ c.in-Err.is c.no_field.ensures)

pub advance-requires : goal.advance-requires
advance-requires c = step_fits _ _ _ _ _ c.requires c.in-Running.is

pub returns-in-Idle : goal.returns-in-Idle
returns-in-Idle c = rw c.refused-in-Idle.ensures (step_idle _ _ _ _ c.in-Idle.is (passed_number c.in_default.is c.no_field.ensures))

pub returns-in-Running : goal.returns-in-Running
returns-in-Running c = step_done _ _ _ _ c.in-Running.is (passed_number c.in_default.is c.no_field.ensures) refl c.advance.ensures
