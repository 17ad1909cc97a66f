-- `memory_access::window_read` meets its contract: refused by its checks; past them the four bytes lie in the window, and the dword is read as the row says.
use Rattle.std.proofs.Common.{refl}
use Rattle.card.specs.Bridge.{state_as}
use Rattle.access.specs.Laws.{passed_number}
use Rattle.card.specs.Laws.{unchanged, refused_did, done_did}
use Rattle.memory_access.proofs.window_read.Goals as goal

pub returns-in-Err : goal.returns-in-Err
unfolding state_as
returns-in-Err c = λ m. rw c.refused.ensures (refused_did _ _ _ _ _ _ _ c.in-Err.is c.check_window.ensures)

pub returns : goal.returns
unfolding state_as
returns c =
    λ m. rw c.done.ensures (done_did _ _ _ _ _ _ (passed_number c.in_default.is c.check_window.ensures) refl (unchanged _ _ _ _ _ (rw (c.read_dword.ensures, c.offset.ensures)) refl))
